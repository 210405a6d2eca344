use Rattle.std.proofs.Common.{ℕ, ◌≡◌, ◌<◌, length}
use Rattle.std.specs.Prelude.{slice_index_or}
use Rattle.ca_planes.specs.Trits.{HasNodes, state_in}
use Rattle.ca_every_vector.specs.code.Lanes.{AreLanesWithin, InEach, number_in, values_of}
use Rattle.ca_every_vector.specs.code.Region.{HaveDigits}
use Rattle.ca_every_vector.specs.code.Spread.{IsGiven}
use Rattle.ca_every_vector.proofs.lane_region.evaluate_parts.Given as goal

abbrev pub invariant-loop-place : goal.invariant-loop-place
invariant-loop-place l = record {
  nets : HasNodes (length l.chip.core.nets) l.values;
  room : length l.masks.items ≡ 64;
  within : AreLanesWithin l.chip.core l.inputs l.parts l.values;
  digits : InEach (λ lane. HaveDigits l.chip.core l.inputs (number_in l.block lane) (state_in l.values lane));
  given : InEach (λ lane. (k : ℕ) → k < l.place → IsGiven l.chip.core (slice_index_or l.parts k 0) (values_of l.values lane));
}
