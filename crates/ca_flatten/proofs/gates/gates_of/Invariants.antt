use Rattle.ca_flatten.proofs.MarkLemmas.{AreFirstMarks}
use Rattle.ca_flatten.proofs.gates.gates_of.Given as goal

abbrev pub invariant-loop-k : goal.invariant-loop-k
invariant-loop-k l = AreFirstMarks l.chip l.k l.marks.items
