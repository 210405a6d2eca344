use Rattle.std.proofs.Common.{sym, subst}
use Rattle.std.specs.List.{All}
use Rattle.ca_view.specs.Linked.{IsPlacedDefect, place_in}
use Rattle.ca_view.specs.Places.{cell_number}
use Rattle.ca_credit.specs.Defects.{IsSearchable}
use Rattle.ca_certify.proofs.ViewLemmas.{all_searchable, fresh_placed, fresh_searchable}
use Rattle.ca_certify.proofs.certificate.claims_by.Goals as goal

pub claims_on-claims-requires-clause-placed : goal.claims_on-claims-requires-clause-placed
claims_on-claims-requires-clause-placed g c =
    let view = c.args.view.now in
    let judge = c.in_ok-judge.judge in
    subst (All (IsPlacedDefect judge.seen.chip (place_in judge.seen.places))) (sym c.as_slice.ensures)
    (fresh_placed view.core view.ranks judge c.in_ok-judge.ensures c.in_ok-defects.defects c.in_ok-defects.ensures.placed)

pub claims_on-claims-requires-clause-searchable : goal.claims_on-claims-requires-clause-searchable
claims_on-claims-requires-clause-searchable g c =
    let view = c.args.view.now in
    let judge = c.in_ok-judge.judge in
    subst (All (IsSearchable judge.seen.chip)) (sym c.as_slice.ensures)
    (fresh_searchable view.core view.ranks judge c.in_ok-judge.ensures c.in_ok-defects.defects
    (all_searchable view.core view.ranks (cell_number view.chip) c.in_ok-defects.defects c.linked.ensures.linked c.requires.judged
    c.in_ok-defects.ensures.placed))
