use Rattle.ca_cluster.specs.code.Pairs.{AreFirst}
use Rattle.ca_cluster.proofs.bridge.pairs_of.Given as goal

abbrev pub invariant-loop-m : goal.invariant-loop-m
invariant-loop-m l = AreFirst l.of.instance.0 l.of.inputs l.of.nodes l.m 0 l.list
