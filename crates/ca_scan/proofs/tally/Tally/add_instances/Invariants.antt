use Rattle.std.proofs.Common.{take}
use Rattle.ca_scan.specs.code.Kept.{Adds}
use Rattle.ca_scan.proofs.tally.Tally.add_instances.Given as goal

abbrev pub invariant-loop-k : goal.invariant-loop-k
invariant-loop-k l = Adds (take l.k l.instances) l.fn.self l.self
