use Rattle.ca_every_vector.specs.code.Sure.{AreSurePins}
use Rattle.ca_every_vector.proofs.sure.are_sure_pins.Given as goal

abbrev pub invariant-loop-pin : goal.invariant-loop-pin
invariant-loop-pin l = AreSurePins l.chip.core l.values l.w l.pin
