use Rattle.std.proofs.Common.{subst, sym, List}
use Rattle.ca_net.specs.declared.trit.Trit.{Trit}
use Rattle.ca_flat.specs.Chip.{Chip}
use Rattle.ca_credit.specs.Detection.{IsAnswer}
use Rattle.ca_credit.proofs.RoundLemmas.{some_of, answer_alike}
use Rattle.ca_credit.proofs.round.Round.try_alike.Goals as goal

pub returns-clause-tries : goal.returns-clause-tries
returns-clause-tries g c =
    let task = g.S.Simulator.task c.args.sim.now in
    let aimed_in = g.S.Simulator.aimed_in c.args.sim.now in
    let bits = g.S.Simulator.bits c.args.sim.now in
    let one = some_of (g.S.Simulator.aimed c.args.sim.now) c.requires.aimed in
    c.give.ensures.tries task c.args.pair.now (λ defect at.
    subst (λ (b : List Trit). IsAnswer (task.chip_of c.args.place) defect b c.args.answer) c.requires.bits
    (subst (λ (x : Chip). IsAnswer x defect bits c.args.answer) (sym (c.is_alike.ensures.same_chip c.if-not-is_alike.false))
    (answer_alike aimed_in one.0 defect bits c.args.answer (c.is_alike.ensures.alike one.0 defect one.1 at c.if-not-is_alike.false)
    (c.requires.answer one.0 one.1))))
