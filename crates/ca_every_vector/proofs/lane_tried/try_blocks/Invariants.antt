use Rattle.std.proofs.Common.{◌≡◌, ◌*◌, length}
use Rattle.std.specs.List.{All}
use Rattle.ca_planes.specs.Trits.{HasNodes}
use Rattle.ca_every_vector.specs.code.Lanes.{AreLanesWithin, AreSameLanes}
use Rattle.ca_every_vector.specs.code.Masks.{AreMore}
use Rattle.ca_every_vector.specs.code.Region.{IsTriedTo}
use Rattle.ca_every_vector.proofs.lane_tried.try_blocks.Given as goal

abbrev pub invariant-loop-block : goal.invariant-loop-block
invariant-loop-block l = record {
  tried : All (IsTriedTo l.chip.core l.region.inputs.items (64 * l.block) l.masks) l.region.fresh.items;
  more : AreMore l.fn.masks l.masks;
  nets : HasNodes (length l.chip.core.nets) l.values;
  other_nets : HasNodes (length l.chip.core.nets) l.others;
  within : AreLanesWithin l.chip.core l.region.inputs.items l.region.parts.items l.values;
  rest : AreSameLanes l.others l.values;
  room : length l.room.items ≡ 64;
}
