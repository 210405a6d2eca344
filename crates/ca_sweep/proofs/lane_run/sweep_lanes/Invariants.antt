use Rattle.std.proofs.Common.{ℕ, ◌≡◌, ◌+◌, ◌-◌, ◌<◌, ◌≤◌, length}
use Rattle.ca_flat.specs.Chip.{count_of}
use Rattle.ca_view.specs.Linked.{place_in}
use Rattle.ca_sweep.specs.Seen.{flipped_outputs}
use Rattle.ca_sweep.specs.code.Changes.{IsSweptTo}
use Rattle.ca_sweep.specs.code.Lanes.{AreLanesRoomy, flips_in, goods_in, values_in}
use Rattle.ca_sweep.proofs.lane_run.sweep_lanes.Given as goal

abbrev pub invariant-places : goal.invariant-places
invariant-places l = record {
  swept : (lane : ℕ) → lane < 64 → IsSweptTo l.chip.core (place_in l.chip.ranks) l.u (goods_in l.goods lane)
      (flipped_outputs l.chip.core l.u (goods_in l.goods lane) (flips_in l.fn.flips lane)) l.from (values_in l.values lane);
  within : l.from ≤ count_of l.chip.core + 1;
  room : AreLanesRoomy l.chip.core l.values;
  masks : length l.masks.items ≡ 64;
}

abbrev pub decreases-places : goal.decreases-places
decreases-places l = count_of l.chip.core + 1 - l.from
