use Rattle.ca_cluster.specs.code.Ends.{IsOnOutput}
use Rattle.ca_cluster.specs.code.Marks.{Spreads, ByNet}
use Rattle.ca_cluster.proofs.marks.mark_drivers.Given as goal

abbrev pub invariant-loop-k : goal.invariant-loop-k
invariant-loop-k l = Spreads (ByNet (IsOnOutput l.chip) l.nets l.k) l.fn.marks l.marks
