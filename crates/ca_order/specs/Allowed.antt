-- What events do to a network, and which of them may come while its inputs change from one vector to another.
use Rattle.std.specs.Prelude.{ℕ, ◌≡◌, ◌↔◌, List, length, map, slice_get, Some, Result}
use Rattle.ca_net.specs.declared.trit.Trit.{Trit}
use Rattle.ca_net.specs.declared.node.NodeId.{NodeId}
use Rattle.ca_net.specs.declared.trit.Trit.TheVariants.{X}
use Rattle.ca_net.specs.State.{value_at}
use Rattle.ca_net.specs.Circuit.{Circuit, IsInput}
use Rattle.ca_net.specs.Event as model
use Rattle.ca_net.specs.PairRun.{MayCome}
use Rattle.ca_order.specs.declared.event.Event.{Event}
use Rattle.ca_order.specs.declared.event.Event.TheVariants as event
use Rattle.ca_order.specs.declared.event.Place.{Place}
use Rattle.ca_order.specs.declared.event.Place.TheVariants as place
use Rattle.ca_order.specs.declared.event.OrderFault.{OrderFault}
use Rattle.ca_order.specs.Order.{order_of}
use Rattle.ca_order.specs.OrderFault.{Reads}

-- the nodes as places in the network's list of nodes
abbrev pub numbers : List NodeId → List ℕ
numbers nodes = map (λ node. node.0) nodes

-- the event of the model that an event is
abbrev pub meaning : Event → model.Event
meaning (event.Settle nodes) = model.Settle (numbers nodes)
meaning (event.Blur nodes) = model.Blur (numbers nodes)
meaning (event.Set node value) = model.Set node.0 value

-- n is an input node, and may be set: it doesn't have one value of 0 and 1 in both vectors
abbrev pub MaySet : Circuit → List Trit → List Trit → ℕ → Type 0
MaySet net v1 v2 n = IsInput net n × (value_at v1 n ≡ value_at v2 n → value_at v1 n ≡ X)

-- there is a place for each node, and those of nodes that may be set, and no others, are free
pub record ArePlaces (net : Circuit) (v1 v2 : List Trit) (places : List Place) : Type 0 where
  pub each : length places ≡ length net.nodes
  pub free : (n : ℕ) → (slice_get places n ≡ Some place.Free) ↔ MaySet net v1 v2 n

-- the event is one of the network's, and sets no input that has one value of 0 and 1 in both vectors
pub record IsAllowed (net : Circuit) (v1 v2 : List Trit) (event : Event) : Type 0 where
  pub is_event : model.IsEvent net (meaning event)
  pub may_come : MayCome v1 v2 (meaning event)

-- what is answered where a text is read for a network whose inputs change from one vector to the other
pub record ReadsFor (net : Circuit) (v1 v2 : List Trit) (text : List ℕ)
    (answer : Result (List Event) OrderFault) : Type 0 where
  pub places : List Place
  pub are_places : ArePlaces net v1 v2 places
  pub reads : Reads answer (order_of places text)
