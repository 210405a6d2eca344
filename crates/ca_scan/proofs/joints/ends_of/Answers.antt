use Rattle.ca_linked.specs.Instances.{scans_of}
use Rattle.ca_scan.specs.code.Kept.{nets_of}
use Rattle.ca_scan.proofs.JointLemmas.{net_more}
use Rattle.ca_scan.proofs.joints.ends_of.Goals as goal

pub loop-p-preserved : goal.loop-p-preserved
loop-p-preserved c =
    let chip = c.args.chip.now in
    net_more (nets_of chip (scans_of chip)) chip.ports c.loop-p.p c.port_net.result.0 c.loop-p.tally c.add.new.self c.port_net.ensures c.loop-p.invariant
    c.in_ok-add.ensures
