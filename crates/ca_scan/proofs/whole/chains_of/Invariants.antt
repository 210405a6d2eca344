use Rattle.ca_scan.specs.Chain.{AreChainsOf}
use Rattle.ca_scan.proofs.whole.chains_of.Given as goal

abbrev pub invariant-loop-p : goal.invariant-loop-p
invariant-loop-p l = AreChainsOf l.chip l.p l.chains
