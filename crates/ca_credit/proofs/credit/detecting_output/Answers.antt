use Rattle.std.proofs.Common.{arith, rules, Some, None}
use Rattle.std.specs.Prelude.{slice_index}
use Rattle.ca_flat.specs.Pair.{DetectsAt}
use Rattle.ca_credit.proofs.DetectionLemmas.{none_more, answer_stands_in}
use Rattle.ca_credit.proofs.credit.detecting_output.Goals as goal

pub loop-output-preserved : goal.loop-output-preserved
loop-output-preserved g c = λ defect k at. none_more
    (λ k. DetectsAt (g.S.Simulator.aimed_in c.args.sim.now) defect (g.S.Simulator.bits c.args.sim.now)
    (slice_index (g.S.Simulator.task c.args.sim.now).chip.outputs k))
    c.loop-output.output (λ i lt. c.loop-output.invariant defect i at lt)
    (λ detects. let is = (c.detects_at.ensures defect at).1 detects in search rules) k

pub returns-then-detects_at : goal.returns-then-detects_at
returns-then-detects_at g c = λ defect at.
    answer_stands_in (g.S.Simulator.task c.args.sim.now).chip (g.S.Simulator.aimed_in c.args.sim.now) defect (g.S.Simulator.bits c.args.sim.now)
    (Some c.loop-output.output) c.requires (
      omega arith,
      (c.detects_at.ensures defect at).0 c.if-detects_at.true,
      (λ k lt. c.loop-output.invariant defect k at lt),
    )

pub returns : goal.returns
returns g c = λ defect at.
    answer_stands_in (g.S.Simulator.task c.args.sim.now).chip (g.S.Simulator.aimed_in c.args.sim.now) defect (g.S.Simulator.bits c.args.sim.now)
    None c.requires (λ i lt. c.loop-output.invariant defect i at (omega arith))
