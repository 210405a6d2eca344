use Rattle.std.proofs.Common.{length}
use Rattle.ca_planes.specs.Trits.{HasNodes}
use Rattle.ca_every_vector.specs.code.Lanes.{AreEndsOut, AreWrittenOut}
use Rattle.ca_every_vector.proofs.lane_region.write_ends.Given as goal

abbrev pub invariant-loop-output : goal.invariant-loop-output
invariant-loop-output l = record {
  nets : HasNodes (length l.chip.core.nets) l.values;
  ends : AreEndsOut l.chip.core l.w l.table l.masks l.count l.output l.values;
  written : AreWrittenOut l.chip.core l.w l.fn.values l.values;
}
