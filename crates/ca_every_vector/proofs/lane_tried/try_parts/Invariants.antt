use Rattle.std.proofs.Common.{◌≡◌, take, length}
use Rattle.std.specs.List.{All}
use Rattle.ca_planes.specs.Trits.{HasNodes}
use Rattle.ca_every_vector.specs.code.Lanes.{AreSameLanes, HasLastsInLanes}
use Rattle.ca_every_vector.specs.code.Masks.{AreMore, mask_at}
use Rattle.ca_every_vector.proofs.lane_tried.try_parts.Given as goal

abbrev pub invariant-loop-place : goal.invariant-loop-place
invariant-loop-place l = record {
  lasts : All (λ u. HasLastsInLanes l.chip.core l.values u (mask_at l.masks u)) (take l.place l.fresh);
  more : AreMore l.fn.masks l.masks;
  other_nets : HasNodes (length l.chip.core.nets) l.others;
  rest : AreSameLanes l.others l.values;
  room : length l.room.items ≡ 64;
}
