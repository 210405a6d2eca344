use Rattle.std.proofs.Common.{◌≡◌}
use Rattle.std.specs.List.{filter, range_with_len}
use Rattle.ca_cluster.specs.code.Members.{is_marked}
use Rattle.ca_cluster.proofs.members.listed.Given as goal

abbrev pub invariant-loop-k : goal.invariant-loop-k
invariant-loop-k l = l.list ≡ filter (is_marked l.marks) (range_with_len 0 l.k)
