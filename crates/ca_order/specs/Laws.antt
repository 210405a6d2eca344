-- A law of order files. It is the contract of a public function that does nothing (src/laws.rt).
use Rattle.std.specs.Prelude.{ℕ, ◌≡◌, List, Ok}
use Rattle.std.specs.List.{All}
use Rattle.ca_net.specs.declared.trit.Trit.{Trit}
use Rattle.ca_net.specs.Circuit.{Circuit}
use Rattle.ca_order.specs.declared.event.Event.{Event}
use Rattle.ca_order.specs.declared.event.Place.{Place}
use Rattle.ca_order.specs.Order.{order_of}
use Rattle.ca_order.specs.Allowed.{ArePlaces, IsAllowed}

-- each event of an order file may come in a run of the network for the two vectors
abbrev pub ReadEventsAreAllowed : Type 0
ReadEventsAreAllowed =
    (net : Circuit) (v1 v2 : List Trit) (places : List Place) (text : List ℕ) (events : List Event)
    → ArePlaces net v1 v2 places → order_of places text ≡ Ok events → All (IsAllowed net v1 v2) events
