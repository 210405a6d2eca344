use Rattle.std.proofs.Common.{arith}
use Rattle.ca_cluster.proofs.PairLemmas.{first_row}
use Rattle.ca_cluster.proofs.bridge.push_row.Goals as goal

pub returns : goal.returns
returns c =
    first_row c.args.of.instance.0 c.args.of.inputs c.args.of.nodes c.args.m c.loop-n.n c.loop-n.list (let past = c.loop-n-test.false in omega arith) c.loop-n.invariant
