use Rattle.ca_view.proofs.LinkLemmas.{empty_more}
use Rattle.ca_view.proofs.links.LinkTable.empty.Goals as goal

pub loop-net-preserved : goal.loop-net-preserved
loop-net-preserved c = empty_more _ _ _ _ c.in_ok-push.ensures.items c.new.ensures.items c.loop-net.invariant
