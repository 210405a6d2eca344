use Rattle.ca_planes.specs.Trits.{state_in}
use Rattle.ca_every_vector.specs.code.Lanes.{InEach, number_in}
use Rattle.ca_every_vector.specs.code.Region.{HaveDigitsTo}
use Rattle.ca_every_vector.proofs.lane_region.have_digits.Given as goal

abbrev pub invariant-loop-place : goal.invariant-loop-place
invariant-loop-place l = InEach (λ lane. HaveDigitsTo l.chip.core l.inputs (number_in l.block lane) (state_in l.values lane) l.place)
