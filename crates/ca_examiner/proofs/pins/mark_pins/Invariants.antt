use Rattle.ca_examiner.specs.code.Marks.{MarksPins}
use Rattle.ca_examiner.proofs.pins.mark_pins.Given as goal

abbrev pub invariant-loop-pin : goal.invariant-loop-pin
invariant-loop-pin l = MarksPins l.chip.core l.others l.u l.pins.from l.pin l.fn.marks.items l.marks.items
