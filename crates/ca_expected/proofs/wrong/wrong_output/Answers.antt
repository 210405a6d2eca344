use Rattle.std.proofs.Common.{◌≡◌, true, false, refl, arith}
use Rattle.ca_expected.proofs.WrongLemmas.{right_more, wrong_here, all_right}
use Rattle.ca_expected.proofs.wrong.wrong_output.Goals as goal

pub returns-then-not-is_same : goal.returns-then-not-is_same
returns-then-not-is_same g c =
    wrong_here (g.S.Simulator.task c.args.sim.now).chip (g.S.Simulator.bits c.args.sim.now) c.args.values.now
    c.loop-output.output c.good_end.result c.get.result
    (let below = c.loop-output-test.true in let count = c.output_count-output-end.ensures in omega (arith, below, count))
    c.loop-output.invariant c.good_end.ensures c.get.ensures
    (λ same. let clash : false ≡ true = (c.if-not-is_same.ensures {u = tt}).1 same in absurd cc)

pub loop-output-preserved : goal.loop-output-preserved
loop-output-preserved g c =
    right_more (g.S.Simulator.task c.args.sim.now).chip (g.S.Simulator.bits c.args.sim.now) c.args.values.now
    c.loop-output.output c.good_end.result c.get.result c.loop-output.invariant c.good_end.ensures c.get.ensures
    ((c.if-not-is_same.ensures {u = tt}).0 refl)

pub returns : goal.returns
returns g c =
    let count = c.output_count-output-end.ensures in
    let all = c.loop-output-test.false in
    all_right (g.S.Simulator.task c.args.sim.now).chip (g.S.Simulator.bits c.args.sim.now) c.args.values.now c.requires
    (λ o below. c.loop-output.invariant o (omega (arith, count, all, below)))
