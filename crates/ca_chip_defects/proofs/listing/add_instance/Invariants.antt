use Rattle.std.proofs.Common.{◌≡◌, ◌++◌, take, map}
use Rattle.std.specs.List.{All}
use Rattle.ca_view.specs.Linked.{IsPlacedDefect, place_in}
use Rattle.ca_chip_defects.specs.ChipDefects.{placed_at}
use Rattle.ca_chip_defects.proofs.listing.add_instance.Given as goal

abbrev pub invariant-loop-defect : goal.invariant-loop-defect
invariant-loop-defect l =
    (l.list ≡ l.fn.list ++ map (placed_at l.u) (take l.defect-index l.defect-items))
    × All (IsPlacedDefect l.view.core (place_in l.view.ranks)) l.list
