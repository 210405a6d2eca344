use Rattle.ca_view.proofs.LinkLemmas.{pins_more}
use Rattle.ca_view.proofs.links.LinkTable.add_instance.Goals as goal

pub loop-from-preserved : goal.loop-from-preserved
loop-from-preserved c =
    pins_more c.args.self.now c.loop-from.self c.add_to_each.new.self c.args.froms.now c.args.tos.now c.loop-from.from-index c.loop-from-test.true c.loop-from.invariant
    c.in_ok-add_to_each.ensures.ok
