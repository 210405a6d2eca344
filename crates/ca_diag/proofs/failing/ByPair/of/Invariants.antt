use Rattle.std.proofs.Common.{take}
use Rattle.ca_diag.specs.code.Failing.{AreByPair}
use Rattle.ca_diag.proofs.failing.ByPair.of.Given as goal

abbrev pub invariant-loop-k : goal.invariant-loop-k
invariant-loop-k l = AreByPair l.pairs (take l.k l.log) l.by
