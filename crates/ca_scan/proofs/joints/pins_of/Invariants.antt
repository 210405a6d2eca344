use Rattle.std.proofs.Common.{take}
use Rattle.ca_linked.specs.Instances.{scans_of}
use Rattle.ca_scan.specs.code.Kept.{Counts, nets_of}
use Rattle.ca_scan.proofs.joints.pins_of.Given as goal

abbrev pub invariant-loop-k : goal.invariant-loop-k
invariant-loop-k l = Counts l.tally (nets_of l.chip (take l.k (scans_of l.chip)))
