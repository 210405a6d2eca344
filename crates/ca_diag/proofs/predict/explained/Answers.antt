use Rattle.std.proofs.Common.{arith}
use Rattle.ca_diag.specs.code.Judged.{FailsAt}
use Rattle.ca_diag.proofs.JudgeLemmas.{count_more}
use Rattle.ca_diag.proofs.predict.explained.Goals as goal

pub loop-k-preserved : goal.loop-k-preserved
loop-k-preserved g c = record {
  few = let before = c.loop-k.invariant.few in let one = c.one_if_fail-count.ensures.few in omega (arith, before, one);
  counted = λ defect at.
      count_more (FailsAt (g.S.Simulator.task c.args.sim.now).chip defect (g.S.Simulator.bits c.args.sim.now)) c.args.failing.now.outputs.now
      c.loop-k.k c.get.result c.loop-k.count c.one_if_fail-count.result c.get.ensures (c.loop-k.invariant.counted defect at)
      (c.one_if_fail-count.ensures.one defect at);
}
