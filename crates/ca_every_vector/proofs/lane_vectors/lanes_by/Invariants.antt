use Rattle.ca_every_vector.specs.code.Lanes.{InLanes, values_of}
use Rattle.ca_every_vector.specs.code.Spread.{IsGiven}
use Rattle.ca_every_vector.proofs.lane_vectors.lanes_by.Given as goal

abbrev pub invariant-loop-number : goal.invariant-loop-number
invariant-loop-number l = InLanes l.lanes (λ lane. IsGiven l.chip.core l.w (values_of l.values lane))
