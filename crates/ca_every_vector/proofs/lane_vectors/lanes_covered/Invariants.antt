use Rattle.ca_every_vector.specs.code.Lanes.{InLanes, IsCovered}
use Rattle.ca_every_vector.proofs.lane_vectors.lanes_covered.Given as goal

abbrev pub invariant-loop-number : goal.invariant-loop-number
invariant-loop-number l = InLanes l.lanes (IsCovered l.masks l.number)
