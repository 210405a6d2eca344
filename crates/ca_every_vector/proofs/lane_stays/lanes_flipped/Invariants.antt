use Rattle.ca_planes.specs.Trits.{state_in}
use Rattle.ca_every_vector.specs.code.Lanes.{InLanes}
use Rattle.ca_every_vector.proofs.LaneSpreadLemmas.{AreFlippedTo}
use Rattle.ca_every_vector.proofs.lane_stays.lanes_flipped.Given as goal

abbrev pub invariant-loop-output : goal.invariant-loop-output
invariant-loop-output l = InLanes l.lanes (λ lane. AreFlippedTo l.chip.core l.u (state_in l.values lane) (state_in l.others lane) l.flips l.output)
