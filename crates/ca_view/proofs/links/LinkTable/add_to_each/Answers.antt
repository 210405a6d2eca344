use Rattle.ca_view.proofs.LinkLemmas.{each_more}
use Rattle.ca_view.proofs.links.LinkTable.add_to_each.Goals as goal

pub loop-to-preserved : goal.loop-to-preserved
loop-to-preserved c =
    each_more c.args.self.now c.loop-to.self c.add.new.self c.args.from c.args.tos.now c.loop-to.to-index c.loop-to-test.true c.requires.from c.loop-to.invariant c.in_ok-add.ensures.ok
