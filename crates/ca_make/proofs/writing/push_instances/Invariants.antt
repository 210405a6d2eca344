use Rattle.std.proofs.Common.{◌≡◌, ◌++◌, take}
use Rattle.ca_make.specs.NetlistText.{listed_from, instance_line}
use Rattle.ca_make.proofs.writing.push_instances.Given as goal

abbrev pub invariant-loop-k : goal.invariant-loop-k
invariant-loop-k l = l.text ≡ l.fn.text ++ listed_from instance_line 0 (take l.k l.gates)
