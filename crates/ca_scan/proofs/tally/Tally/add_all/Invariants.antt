use Rattle.std.proofs.Common.{take}
use Rattle.ca_scan.specs.code.Kept.{Adds}
use Rattle.ca_scan.proofs.tally.Tally.add_all.Given as goal

abbrev pub invariant-loop-k : goal.invariant-loop-k
invariant-loop-k l = Adds (take l.k l.numbers) l.fn.self l.self
