use Rattle.ca_every_vector.specs.code.Lanes.{AreEnds}
use Rattle.ca_every_vector.proofs.lane_vectors.ends_by.Given as goal

abbrev pub invariant-loop-number : goal.invariant-loop-number
invariant-loop-number l = AreEnds l.table l.masks l.number l.output l.ends
