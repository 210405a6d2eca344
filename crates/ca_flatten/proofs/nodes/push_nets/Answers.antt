use Rattle.ca_flatten.proofs.ListLemmas.{no_kinds, more_kinds}
use Rattle.ca_flatten.proofs.nodes.push_nets.Goals as goal

pub loop-net-init : goal.loop-net-init
loop-net-init c = no_kinds c.args.chip.now c.args.nodes.now

pub loop-net-preserved : goal.loop-net-preserved
loop-net-preserved c =
    more_kinds c.args.chip.now c.loop-net.net c.args.nodes.now c.loop-net.nodes c.push_net.new.nodes c.loop-net.invariant (c.in_ok-push_net.ensures {u = tt})
