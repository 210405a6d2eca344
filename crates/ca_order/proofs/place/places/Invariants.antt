use Rattle.ca_order.proofs.PlaceLemmas.{HavePlaces}
use Rattle.ca_order.proofs.place.places.Given as goal

abbrev pub invariant-loop-n : goal.invariant-loop-n
invariant-loop-n g l = HavePlaces (g.N.Network.circuit l.net) l.first l.last l.n l.places
