use Rattle.std.proofs.Common.{take, ◌++◌, map}
use Rattle.ca_linked.specs.Instances.{scans_of}
use Rattle.ca_scan.specs.code.Kept.{Counts, nets_of}
use Rattle.ca_scan.proofs.joints.ends_of.Given as goal

abbrev pub invariant-loop-p : goal.invariant-loop-p
invariant-loop-p l = Counts l.tally (nets_of l.chip (scans_of l.chip) ++ map (λ port. port.net) (take l.p l.chip.ports))
