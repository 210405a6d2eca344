use Rattle.std.proofs.Common.{◌≡◌, length, take}
use Rattle.std.specs.List.{All}
use Rattle.ca_planes.specs.Trits.{state_in}
use Rattle.ca_every_vector.specs.code.Lanes.{InLanes, IsSameOrInside}
use Rattle.ca_every_vector.proofs.lane_spread.lanes_changed.Given as goal

abbrev pub invariant-loop-place : goal.invariant-loop-place
invariant-loop-place l = record {
  hidden : InLanes l.lanes (λ lane. All (IsSameOrInside l.chip.core l.chip.lists (state_in l.values lane) (state_in l.others lane)) (take l.place l.changed));
  room : length l.masks.items ≡ 64;
}
