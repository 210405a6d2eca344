use Rattle.std.proofs.Common.{◌≡◌, length, take}
use Rattle.ca_planes.specs.Trits.{state_in}
use Rattle.ca_every_vector.specs.code.Lanes.{InLanes}
use Rattle.ca_every_vector.specs.code.Spread.{AreInside}
use Rattle.ca_every_vector.proofs.lane_spread.lanes_touched.Given as goal

abbrev pub invariant-loop-place : goal.invariant-loop-place
invariant-loop-place l = record {
  inside : InLanes l.lanes (λ lane. AreInside l.chip.core (state_in l.values lane) (state_in l.others lane) (take l.place l.touched));
  room : length l.masks.items ≡ 64;
}
