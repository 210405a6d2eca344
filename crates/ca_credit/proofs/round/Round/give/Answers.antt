use Rattle.std.proofs.Common.{subst, Option, ℕ}
use Rattle.ca_code.specs.Filled.{trits_of}
use Rattle.ca_credit.specs.Detection.{IsAnswer}
use Rattle.ca_credit.proofs.round.Round.give.Goals as goal

pub returns-in-Some-clause-tries : goal.returns-in-Some-clause-tries
returns-in-Some-clause-tries c task pair answers =
    c.credit.ensures.tries task pair (λ defect at. subst (λ (answer : Option ℕ). IsAnswer (task.chip_of c.args.place) defect (trits_of pair) answer) c.in-Some.is
    (answers defect at))

pub returns-in-None-clause-tries : goal.returns-in-None-clause-tries
returns-in-None-clause-tries c task pair answers =
    c.pass.ensures.tries task pair c.args.number (λ defect at. subst (λ (answer : Option ℕ). IsAnswer (task.chip_of c.args.place) defect (trits_of pair) answer) c.in-None.is
    (answers defect at))
