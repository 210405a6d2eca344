use Rattle.std.proofs.Common.{◌∙◌, sym, ap, arith}
use native.Mathlib.Decide.{ℕ_discrete}
use Rattle.ca_planes.specs.Trits.{trit_in}
use Rattle.ca_block.specs.Limits.{source_lane}
use Rattle.ca_block.proofs.spread.gather.Goals as goal

pub loop-lane-preserved : goal.loop-lane-preserved
loop-lane-preserved c k lt = elim (ℕ_discrete k c.loop-lane.lane) [
  | yes e ↦
      ap (trit_in c.with-gathered.result) e ∙ c.with-gathered.ensures.here ∙ c.value-value.ensures
      ∙ ap (λ j. trit_in c.args.values (source_lane c.args.power c.args.block j)) (sym e)
  | no ne ↦
      c.with-gathered.ensures.others k (omega (arith, lt, c.loop-lane-test.true, c.loop-lane.auto.lane-end)) ne ∙ c.loop-lane.invariant k (omega (arith, lt, ne))
]
