use Rattle.std.proofs.Common.{◌<◌, length, arith}
use Rattle.ca_linked.specs.Instances.{scans_of}
use Rattle.ca_scan.proofs.JointLemmas.{pins_more}
use Rattle.ca_scan.proofs.joints.pins_of.Goals as goal

pub loop-k-preserved : goal.loop-k-preserved
loop-k-preserved c =
    let below : c.loop-k.k < length (scans_of c.args.chip.now) = omega (arith, c.loop-k-test.true, c.scan_count-k-end.ensures) in
    pins_more c.args.chip.now c.loop-k.k c.loop-k.tally c.add_scan.new.tally below c.loop-k.invariant c.in_ok-add_scan.ensures
