use Rattle.ca_stil_pairs.proofs.PlaceLemmas.{part_pushed}
use Rattle.ca_stil_pairs.proofs.places.push_levels.Goals as goal

pub loop-k-preserved : goal.loop-k-preserved
loop-k-preserved c =
    part_pushed c.args.list.now c.loop-k.list c.push.new.self c.args.from c.loop-k.k c.args.levels.now c.get.result
    c.loop-k.invariant c.get.ensures c.in_ok-push.ensures.ok
