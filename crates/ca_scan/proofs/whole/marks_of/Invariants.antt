use Rattle.std.proofs.Common.{take}
use Rattle.ca_scan.specs.code.Kept.{Counts, all_of}
use Rattle.ca_scan.proofs.whole.marks_of.Given as goal

abbrev pub invariant-loop-k : goal.invariant-loop-k
invariant-loop-k l = Counts l.tally (all_of (take l.k l.chains))
