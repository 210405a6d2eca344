use Rattle.std.proofs.Common.{◌-◌}
use Rattle.ca_every_vector.proofs.LaneLemmas.{AreHalvedFrom}
use Rattle.ca_every_vector.proofs.lane_vectors.part.Given as goal

abbrev pub invariant-loop-back : goal.invariant-loop-back
invariant-loop-back l = AreHalvedFrom l.zero l.one l.count (l.count - l.back) l.fn.masks.items l.masks.items
