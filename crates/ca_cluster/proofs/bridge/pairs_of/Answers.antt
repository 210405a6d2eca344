use Rattle.std.proofs.Common.{subst, arith}
use Rattle.ca_cluster.specs.code.Pairs.{AreFirst}
use Rattle.ca_cluster.proofs.PairLemmas.{first_none}
use Rattle.ca_cluster.proofs.bridge.pairs_of.Goals as goal

pub loop-m-init : goal.loop-m-init
loop-m-init c = first_none c.args.of.instance.0 c.args.of.inputs c.args.of.nodes c.new-list.result c.new-list.ensures

pub returns : goal.returns
returns c =
    subst (λ m. AreFirst c.args.of.instance.0 c.args.of.inputs c.args.of.nodes m 0 c.loop-m.list)
    (let past = c.loop-m-test.false in let end = c.loop-m.auto.m-end in omega arith) c.loop-m.invariant
