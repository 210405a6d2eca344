use Rattle.ca_cluster.specs.code.Marks.{AreLed, Onward, IsAmongFirst}
use Rattle.ca_cluster.proofs.marks.marks_after.Given as goal

abbrev pub invariant-loop-k : goal.invariant-loop-k
invariant-loop-k l = AreLed (Onward l.chip) (IsAmongFirst l.chip l.k) l.at l.marks
