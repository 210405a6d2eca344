use Rattle.ca_cluster.specs.code.Marks.{AreLed, Back, IsAmongLast}
use Rattle.ca_cluster.proofs.marks.marks_before.Given as goal

abbrev pub invariant-loop-k : goal.invariant-loop-k
invariant-loop-k l = AreLed (Back l.chip) (IsAmongLast l.chip l.k) l.at l.marks
