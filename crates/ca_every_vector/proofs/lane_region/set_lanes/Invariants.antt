use Rattle.std.proofs.Common.{length}
use Rattle.ca_planes.specs.Trits.{HasNodes}
use Rattle.ca_every_vector.specs.code.Lanes.{AreLanesWithin}
use Rattle.ca_every_vector.proofs.lane_region.set_lanes.Given as goal

abbrev pub invariant-loop-place : goal.invariant-loop-place
invariant-loop-place l = record {
  nets : HasNodes (length l.chip.core.nets) l.values;
  within : AreLanesWithin l.chip.core l.inputs l.parts l.values;
}
