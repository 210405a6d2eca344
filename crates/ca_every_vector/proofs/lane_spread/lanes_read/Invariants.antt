use Rattle.std.proofs.Common.{ℕ, ◌<◌, ◌≡◌, Some, length}
use Rattle.std.specs.Prelude.{slice_get}
use Rattle.ca_view.specs.Readers.{row_at}
use Rattle.ca_every_vector.specs.Inside.{IsEvaluatedInside}
use Rattle.ca_every_vector.specs.code.Lanes.{InLanes, values_of}
use Rattle.ca_every_vector.proofs.lane_spread.lanes_read.Given as goal

abbrev pub invariant-loop-k : goal.invariant-loop-k
invariant-loop-k l = record {
  inside : InLanes l.lanes (λ lane. (j w : ℕ) → j < l.k → slice_get (row_at l.chip.readers l.net) j ≡ Some w
      → IsEvaluatedInside l.chip.core w (values_of l.values lane) (values_of l.others lane));
  room : length l.masks.items ≡ 64;
}
