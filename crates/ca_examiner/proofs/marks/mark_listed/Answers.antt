use Rattle.ca_examiner.proofs.MarkLemmas.{listed_more}
use Rattle.ca_examiner.proofs.marks.mark_listed.Goals as goal

pub loop-net-preserved : goal.loop-net-preserved
loop-net-preserved c =
    listed_more c.args.others.now c.args.nets.now c.loop-net.net-index _ c.args.marks.now.items c.loop-net.marks.items c.mark_if.new.marks.items
    c.loop-net-test.true c.loop-net.invariant c.mark_if.ensures
