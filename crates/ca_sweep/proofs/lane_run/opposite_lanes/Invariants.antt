use Rattle.std.proofs.Common.{ℕ, ◌≡◌, ◌+◌, ◌-◌, ◌<◌, ◌≤◌, false}
use Rattle.ca_net.specs.State.{value_at}
use Rattle.ca_flat.specs.Chip.{count_of}
use Rattle.ca_planes.specs.Plane.{has_lane}
use Rattle.ca_view.specs.Linked.{place_in}
use Rattle.ca_sweep.specs.code.Lanes.{goods_in, trits_in}
use Rattle.ca_sweep.proofs.FirstLemmas.{IsLeastTo}
use Rattle.ca_sweep.proofs.lane_run.opposite_lanes.Given as goal

abbrev pub invariant-loop-place : goal.invariant-loop-place
invariant-loop-place l = record {
  least : (lane : ℕ) → lane < 64 → has_lane l.seen lane ≡ false
      → IsLeastTo l.chip.core (place_in l.chip.ranks) l.u (goods_in l.goods lane) (value_at (trits_in l.values.ones.items lane)) l.values.due l.firsts l.from l.count;
  within : l.from ≤ count_of l.chip.core + 1;
}

abbrev pub decreases-loop-place : goal.decreases-loop-place
decreases-loop-place l = count_of l.chip.core + 1 - l.from
