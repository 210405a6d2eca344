use Rattle.std.specs.Prelude.{take}
use Rattle.ca_draft.specs.code.OnWires.{AreMarks}
use Rattle.ca_draft.proofs.marks.marks_of.Given as goal

abbrev pub invariant-loop-k : goal.invariant-loop-k
invariant-loop-k l = AreMarks l.earliest (take l.k l.wires) l.used.items
