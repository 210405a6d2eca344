use Rattle.std.specs.Prelude.{take}
use Rattle.ca_linked.specs.Paths.{Marks}
use Rattle.ca_linked.proofs.marks.NetMarks.mark_all.Given as goal

abbrev pub invariant-loop-k : goal.invariant-loop-k
invariant-loop-k l = Marks (take l.k l.nets) l.fn.self l.self
