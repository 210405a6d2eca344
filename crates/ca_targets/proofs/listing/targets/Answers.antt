use Rattle.ca_targets.proofs.ListLemmas.{contains_at}
use Rattle.ca_targets.proofs.StepLemmas.{next}
use Rattle.ca_targets.proofs.listing.targets.Goals as goal

pub add_target-requires-clause-known : goal.add_target-requires-clause-known
add_target-requires-clause-known c = c.requires c.get.result (contains_at c.args.bridges.now c.loop-k.k c.get.result c.get.ensures)

pub loop-k-preserved : goal.loop-k-preserved
loop-k-preserved c =
    next c.args.chip.now c.args.bridges.now c.loop-k.k c.get.result c.loop-k.all.targets c.loop-k.all.clusters.items c.add_target.new.all.targets
    c.add_target.new.all.clusters.items c.get.ensures c.loop-k.invariant (c.in_ok-add_target.ensures {u = tt})
