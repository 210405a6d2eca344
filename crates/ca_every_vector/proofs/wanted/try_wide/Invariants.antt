use Rattle.ca_every_vector.specs.code.Wide.{IsKeptWide}
use Rattle.ca_every_vector.proofs.wanted.try_wide.Given as goal

abbrev pub invariant-loop-place : goal.invariant-loop-place
invariant-loop-place l = IsKeptWide l.chip.core l.wide
