use Rattle.std.proofs.Common.{◌≡◌, take}
use Rattle.ca_log.proofs.record_set.RecordSet.list.Given as goal

abbrev pub invariant-loop-k : goal.invariant-loop-k
invariant-loop-k l = l.log ≡ take l.k l.self
