use Rattle.std.specs.Prelude.{take}
use Rattle.ca_every_vector.specs.code.Spread.{AreInside}
use Rattle.ca_every_vector.proofs.spread.are_touched_inside.Given as goal

abbrev pub invariant-loop-place : goal.invariant-loop-place
invariant-loop-place l = AreInside l.chip.core l.values l.others (take l.place l.touched)
