use Rattle.std.proofs.Common.{◌≡◌, ◌∙◌, [], ap, arith, subst, sym}
use Rattle.std.specs.Prelude.{slice_index_or}
use Rattle.std.proofs.lemmas.List.{get_or_default}
use Rattle.ca_flat.specs.Chip.{cell_at}
use Rattle.ca_view.specs.Linked.{IsPlaced, place_in}
use Rattle.ca_view.specs.Places.{cell_number}
use Rattle.ca_sweep.specs.code.Rows.{IsListOf}
use Rattle.ca_sweep.proofs.SpanLemmas.{listed_of_cell}
use Rattle.ca_sweep.proofs.spans.span_to.Goals as goal

pub returns-clause-whole : goal.returns-clause-whole
returns-clause-whole c = λ granted.
    let chip = c.args.chip.now.core in
    let u = c.args.defect.instance in
    let lists = c.args.lists.now in
    let placed : IsPlaced chip (place_in c.args.chip.now.ranks) u =
    record { known = c.requires.placed.defect_is.known; placed = c.requires.placed.placed } in
    let same : c.index-lists-number.result ≡ slice_index_or lists (cell_number c.args.chip.now.chip u) [] =
    c.index-lists-number.is
    ∙ get_or_default lists c.number-number.result c.index-lists-number.result []
    (let room = c.requires.lists.room u placed in let is = c.number-number.ensures in omega arith)
    ∙ ap (λ n. slice_index_or lists n []) c.number-number.ensures in
    listed_of_cell (cell_at chip u) c.index-lists-number.result c.args.list.now c.args.start c.args.end
    (subst (IsListOf (cell_at chip u)) (sym same) (c.requires.lists.each u placed)) (c.are_listed-is_whole.ensures granted)
