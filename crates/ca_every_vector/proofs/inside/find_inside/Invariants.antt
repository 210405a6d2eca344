use Rattle.ca_every_vector.specs.code.Inside.{IsKept}
use Rattle.ca_every_vector.proofs.inside.find_inside.Given as goal

abbrev pub invariant-loop-place : goal.invariant-loop-place
invariant-loop-place l = IsKept l.chip.core l.inside
