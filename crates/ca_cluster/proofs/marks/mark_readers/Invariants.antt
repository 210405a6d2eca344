use Rattle.ca_linked.specs.Reading.{Reads}
use Rattle.ca_cluster.specs.code.Marks.{Spreads, ByNet}
use Rattle.ca_cluster.proofs.marks.mark_readers.Given as goal

abbrev pub invariant-loop-k : goal.invariant-loop-k
invariant-loop-k l = Spreads (ByNet (λ net x. Reads l.chip x net) l.nets l.k) l.fn.marks l.marks
