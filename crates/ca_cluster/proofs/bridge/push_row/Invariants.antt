use Rattle.ca_cluster.specs.code.Pairs.{AreFirst}
use Rattle.ca_cluster.proofs.bridge.push_row.Given as goal

abbrev pub invariant-loop-n : goal.invariant-loop-n
invariant-loop-n l = AreFirst l.of.instance.0 l.of.inputs l.of.nodes l.m l.n l.list
