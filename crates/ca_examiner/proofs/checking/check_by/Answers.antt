use Rattle.std.proofs.Common.{IfOk, subst}
use Rattle.ca_flat.specs.Chip.{Chip}
use Rattle.ca_view.specs.Linked.{place_in}
use Rattle.ca_claim.specs.Stands.{IsAnswer}
use Rattle.ca_examiner.proofs.TrueLemmas.{yes_is_true}
use Rattle.ca_examiner.proofs.checking.check_by.Goals as goal

pub returns-clause-proves : goal.returns-clause-proves
returns-clause-proves g c =
    let chip = c.args.chip.now.core in
    let claims = c.args.certificate.now.claims in
    let budget = c.args.certificate.now.budget in
    yes_is_true chip (place_in c.args.chip.now.ranks) c.args.defects.now c.linked.ensures.linked.is_chip
    c.requires.networks c.requires.placed c.args.pairs.now budget claims c.standing_claims_are_true.ensures c.requires.one_each
    c.check-answer.result
    (subst (λ (chip : Chip). IfOk c.check-answer.result (IsAnswer chip c.args.defects.now c.args.pairs.now budget claims))
    c.in_ok-examiner.ensures.chip_is c.check-answer.ensures)
