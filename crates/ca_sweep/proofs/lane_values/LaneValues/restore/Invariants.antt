use Rattle.std.proofs.Common.{ℕ, ◌≡◌, ◌+◌, ◌-◌, ◌<◌, ◌≤◌, length}
use Rattle.ca_flat.specs.Chip.{count_of}
use Rattle.ca_view.specs.Linked.{place_in}
use Rattle.ca_sweep.specs.code.Lanes.{goods_in, values_in}
use Rattle.ca_sweep.proofs.HeldLemmas.{IsHeldFrom}
use Rattle.ca_sweep.proofs.lane_values.LaneValues.restore.Given as goal

abbrev pub invariant-loop-place : goal.invariant-loop-place
invariant-loop-place l = record {
  held : (lane : ℕ) → lane < 64 → IsHeldFrom l.chip.core (place_in l.chip.ranks) l.from (goods_in l.goods lane) (values_in l.self lane);
  within : l.from ≤ count_of l.chip.core + 1;
  room : length l.self.ones.items ≡ length l.chip.core.nets;
}

abbrev pub decreases-loop-place : goal.decreases-loop-place
decreases-loop-place l = count_of l.chip.core + 1 - l.from
