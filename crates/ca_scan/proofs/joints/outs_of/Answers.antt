use Rattle.ca_scan.proofs.JointLemmas.{outs_more}
use Rattle.ca_scan.proofs.joints.outs_of.Goals as goal

pub loop-p-preserved : goal.loop-p-preserved
loop-p-preserved c =
    outs_more c.args.chip.now.ports c.loop-p.p c.loop-p.tally c.add_out.new.tally c.in_ok-add_out.ensures c.loop-p.invariant
