use Rattle.ca_linked.specs.code.Kept.{ArePlaces}
use Rattle.ca_linked.proofs.wiring.places_of.Given as goal

abbrev pub invariant-loop-k : goal.invariant-loop-k
invariant-loop-k l = ArePlaces l.order l.k l.instances l.places.items
