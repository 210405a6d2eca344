use Rattle.ca_examiner.specs.code.Marks.{IsNoneMarkedBelow}
use Rattle.ca_examiner.proofs.leave.is_some_marked.Given as goal

abbrev pub invariant-loop-net : goal.invariant-loop-net
invariant-loop-net l = IsNoneMarkedBelow l.marks l.net-index l.nets
