use Rattle.ca_every_vector.specs.code.Lanes.{InLanes, values_of}
use Rattle.ca_every_vector.specs.code.Spread.{HasEntry}
use Rattle.ca_every_vector.proofs.lane_vectors.lanes_ended.Given as goal

abbrev pub invariant-loop-output : goal.invariant-loop-output
invariant-loop-output l = InLanes l.lanes (λ lane. HasEntry l.chip.core l.w (values_of l.values lane) l.table l.number l.output)
