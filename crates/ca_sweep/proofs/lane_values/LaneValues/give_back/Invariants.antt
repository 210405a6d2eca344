use Rattle.std.proofs.Common.{ℕ, ◌≡◌, length}
use Rattle.ca_sweep.specs.code.Held.{IsGivenBackTo}
use Rattle.ca_sweep.specs.code.Lanes.{goods_in, values_in}
use Rattle.ca_sweep.proofs.lane_values.LaneValues.give_back.Given as goal

abbrev pub invariant-loop-output : goal.invariant-loop-output
invariant-loop-output l = record {
  back : (lane : ℕ) → IsGivenBackTo l.chip.core l.w l.output (goods_in l.goods lane) (values_in l.fn.self lane) (values_in l.self lane);
  room : length l.self.ones.items ≡ length l.chip.core.nets;
}
