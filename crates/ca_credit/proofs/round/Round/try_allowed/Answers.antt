use Rattle.std.proofs.Common.{subst, inr, List, None}
use Rattle.ca_net.specs.declared.trit.Trit.{Trit}
use Rattle.ca_credit.specs.Detection.{IsAnswer}
use Rattle.ca_credit.proofs.AimLemmas.{is_suspect}
use Rattle.ca_credit.proofs.RoundLemmas.{open_left, undetected_answer}
use Rattle.ca_credit.proofs.round.Round.try_allowed.Goals as goal

pub returns-then-not-may_detect-clause-tries : goal.returns-then-not-may_detect-clause-tries
returns-then-not-may_detect-clause-tries g c =
    let task = g.S.Simulator.task c.args.sim.now in
    c.pass.ensures.tries task c.args.pair.now c.args.number (λ defect at.
    subst (λ (b : List Trit). IsAnswer (task.chip_of c.args.place) defect b None) c.requires.bits
    (undetected_answer (task.chip_of c.args.place) defect (g.S.Simulator.bits c.args.sim.now) (c.may_detect.ensures.undetected defect at c.if-not-may_detect.true)))

pub returns-clause-aims : goal.returns-clause-aims
returns-clause-aims g c =
    inr (
      is_suspect (g.S.Simulator.task c.args.sim.now) c.args.pair.now (g.S.Simulator.bits c.args.sim.now)
          c.args.self.now.verdicts.items c.args.place c.requires.bits (open_left c.args.self.now c.args.place c.requires.stands c.requires.left).1
          (λ defect at. c.may_detect.ensures.allowed defect at c.if-not-may_detect.false),
      c.try_from.ensures.aims,
    )
