use Rattle.std.proofs.Common.{◌≡◌, ◌∙◌, ap, subst, List}
use Rattle.std.specs.List.{All}
use Rattle.ca_flat.specs.Chip as flat
use Rattle.ca_linked.specs.Instances.{gates_of}
use Rattle.ca_view.specs.Linked.{IsPlacedDefect, place_in}
use Rattle.ca_engine.specs.ChipDefects.{chip_defects}
use Rattle.ca_chip_grade.proofs.TextLemmas.{are_grades_of}
use Rattle.ca_chip_grade.proofs.texts.report_over.Goals as goal

pub write_grades-requires : goal.write_grades-requires
write_grades-requires c =
    let view = c.args.view.now in
    let found = c.in_ok-defects.ensures in
    let viewed = c.viewed.ensures in
    let is = found.exact ∙ ap (λ (core : flat.Chip). chip_defects core (gates_of view.chip)) viewed.is_view.core_is in
    let placed = subst (λ (core : flat.Chip). All (IsPlacedDefect core (place_in view.ranks)) c.in_ok-defects.defects)
    viewed.is_view.core_is found.placed in
    rw (c.chip.ensures, c.as_slice.ensures)
    (are_grades_of view viewed.is_view c.in_ok-defects.defects is c.graded_is_reported.ensures viewed.wired placed
    c.args.pairs.now c.args.grades.now c.requires)
