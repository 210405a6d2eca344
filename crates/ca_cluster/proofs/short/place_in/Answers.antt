use Rattle.std.proofs.Common.{arith, ◌∙◌}
use Rattle.ca_cluster.proofs.ShortLemmas.{found_here, other_here, none_here}
use Rattle.ca_cluster.proofs.short.place_in.Goals as goal

pub returns-then-get-net : goal.returns-then-get-net
returns-then-get-net c = found_here c.args.nets.now c.args.net c.get.result c.loop-k.k c.get.ensures c.if-get-net.true c.loop-k.invariant

pub loop-k-preserved : goal.loop-k-preserved
loop-k-preserved c = other_here c.args.nets.now c.args.net c.get.result c.loop-k.k c.get.ensures c.if-get-net.false c.loop-k.invariant

pub returns : goal.returns
returns c =
    c.len.ensures ∙ none_here c.args.nets.now c.args.net c.loop-k.k
    (let e = c.len-k-end.ensures in let past = c.loop-k-test.false in omega arith) c.loop-k.invariant
