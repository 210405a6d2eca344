use Rattle.std.proofs.Common.{List, sym, subst}
use Rattle.std.specs.List.{All}
use Rattle.ca_flat.specs.declared.chip_defect.ChipDefect.{ChipDefect}
use Rattle.ca_view.specs.Linked.{IsPlacedDefect, place_in}
use Rattle.ca_bridges.proofs.parts.part_of.Goals as goal

pub reserve_for-requires-clause-placed : goal.reserve_for-requires-clause-placed
reserve_for-requires-clause-placed g c =
    let view = c.args.view.now in
    subst (λ (defects : List ChipDefect). All (IsPlacedDefect view.core (place_in view.ranks)) defects) (sym c.in_ok-defects.ensures)
    (c.library_defects_are_placed.ensures view.chip view c.args.shorts.now c.viewed.ensures.wired c.viewed.ensures.is_view c.requires.shorts)
