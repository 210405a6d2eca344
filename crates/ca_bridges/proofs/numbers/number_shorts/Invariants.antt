use Rattle.ca_bridges.specs.Numbers.{AreNumbered}
use Rattle.ca_bridges.proofs.numbers.number_shorts.Given as goal

abbrev pub invariant-loop-place : goal.invariant-loop-place
invariant-loop-place l = AreNumbered l.targets l.clusters l.place l.numbered
