use Rattle.ca_scan.specs.code.Kept.{AreOnChainsBefore}
use Rattle.ca_scan.proofs.whole.first_off.Given as goal

abbrev pub invariant-loop-k : goal.invariant-loop-k
invariant-loop-k l = AreOnChainsBefore l.chip l.k
