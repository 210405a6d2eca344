use Rattle.std.proofs.Common.{◌≡◌}
use Rattle.std.specs.List.{All}
use Rattle.ca_view.specs.Linked.{IsPlacedDefect, place_in}
use Rattle.ca_chip_defects.specs.ChipDefects.{chip_defects}
use Rattle.ca_chip_defects.specs.code.ChipDefects.{placed_before}
use Rattle.ca_chip_defects.proofs.listing.chip_defects.Given as goal

abbrev pub invariant-loop-u : goal.invariant-loop-u
invariant-loop-u l =
    (l.list ≡ chip_defects l.view.core (placed_before l.view.ranks l.u))
    × All (IsPlacedDefect l.view.core (place_in l.view.ranks)) l.list
