use Rattle.ca_every_vector.specs.code.Region.{HaveDigitsTo}
use Rattle.ca_every_vector.proofs.region.have_digits.Given as goal

abbrev pub invariant-loop-place : goal.invariant-loop-place
invariant-loop-place l = HaveDigitsTo l.chip.core l.inputs l.number l.values l.place
