use Rattle.std.proofs.Common.{take}
use Rattle.std.specs.List.{flat_map}
use Rattle.ca_scan.specs.code.Kept.{Counts, out_nets}
use Rattle.ca_scan.proofs.joints.outs_of.Given as goal

abbrev pub invariant-loop-p : goal.invariant-loop-p
invariant-loop-p l = Counts l.tally (flat_map out_nets (take l.p l.chip.ports))
