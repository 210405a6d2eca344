use Rattle.ca_sweep.specs.Tables.{AreMarks}
use Rattle.ca_every_vector.specs.code.Region.{IsTried}
use Rattle.ca_every_vector.proofs.inside.mark.Given as goal

abbrev pub invariant-loop-place : goal.invariant-loop-place
invariant-loop-place l = AreMarks l.chip.core (IsTried l.chip.core l.masks) l.tried
