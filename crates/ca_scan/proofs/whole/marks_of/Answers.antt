use Rattle.ca_scan.proofs.OffLemmas.{marks_more}
use Rattle.ca_scan.proofs.whole.marks_of.Goals as goal

pub loop-k-preserved : goal.loop-k-preserved
loop-k-preserved c = marks_more c.args.chains.now c.loop-k.k c.loop-k.tally c.add_chain.new.tally c.in_ok-add_chain.ensures c.loop-k.invariant
