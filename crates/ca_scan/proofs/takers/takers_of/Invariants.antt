use Rattle.ca_scan.specs.code.Kept.{AreTakersAmong}
use Rattle.ca_scan.proofs.takers.takers_of.Given as goal

abbrev pub invariant-loop-k : goal.invariant-loop-k
invariant-loop-k l = AreTakersAmong l.chip l.k l.takers
