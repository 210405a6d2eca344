use Rattle.ca_net.specs.declared.trit.Trit.TheVariants.{X}
use Rattle.ca_stil_pairs.proofs.PlaceLemmas.{sited_pushed}
use Rattle.ca_stil_pairs.proofs.places.push_levels_at.Goals as goal

pub loop-k-preserved : goal.loop-k-preserved
loop-k-preserved c =
    sited_pushed X c.args.list.now c.loop-k.list c.push.new.self c.args.from c.loop-k.k c.args.sites.now
    c.args.levels.now c.get.result c.loop-k.invariant c.loop-k-test.true c.get.ensures c.in_ok-push.ensures.ok
