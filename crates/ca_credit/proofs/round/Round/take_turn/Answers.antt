use Rattle.std.proofs.Common.{subst, List}
use Rattle.ca_net.specs.declared.trit.Trit.{Trit}
use Rattle.ca_credit.specs.Detection.{IsDecided}
use Rattle.ca_credit.specs.declared.by_lasts.ByLasts.TheVariants.{At, Nowhere}
use Rattle.ca_credit.proofs.round.Round.take_turn.Goals as goal

pub returns-in-At-clause-tries : goal.returns-in-At-clause-tries
returns-in-At-clause-tries g c =
    let task = g.S.Simulator.task c.args.sim.now in
    c.credit.ensures.tries task c.args.pair.now (λ defect at.
    subst (λ (b : List Trit). IsDecided (task.chip_of c.args.place) defect b (At c.in-At.output)) c.requires.bits (c.in-At.ensures.decided defect at))

pub returns-in-Nowhere-clause-tries : goal.returns-in-Nowhere-clause-tries
returns-in-Nowhere-clause-tries g c =
    let task = g.S.Simulator.task c.args.sim.now in
    c.pass.ensures.tries task c.args.pair.now c.args.number (λ defect at.
    subst (λ (b : List Trit). IsDecided (task.chip_of c.args.place) defect b Nowhere) c.requires.bits (c.in-Nowhere.ensures.decided defect at))
