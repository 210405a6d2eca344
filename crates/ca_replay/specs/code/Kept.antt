-- States as code writes them. Only the contracts of private functions cite this.
use Rattle.std.specs.Prelude.{ℕ, ◌<◌, List, [], ◌∷◌, slice_set}
use Rattle.ca_net.specs.declared.trit.Trit.{Trit}
use Rattle.ca_net.specs.declared.node.NodeId.{NodeId}
use Rattle.ca_net.specs.Circuit.{Circuit}
use Rattle.ca_net.specs.Event as model
use Rattle.ca_net.specs.Trit.{meet_of}
use Rattle.ca_net.specs.State.{value_at}
use Rattle.ca_order.specs.declared.event.Event as order
use Rattle.ca_order.specs.Allowed.{meaning}

-- the state in which each of the nodes in turn takes its value in another state
abbrev pub with_values : List Trit → List NodeId → List Trit → List Trit
with_values from [] s = s
with_values from (node ∷ nodes) s = with_values from nodes (slice_set s node.0 (value_at from node.0))

-- the state in which each of the nodes in turn becomes unknown if its value in another state is another
abbrev pub met_with : List Trit → List NodeId → List Trit → List Trit
met_with from [] s = s
met_with from (node ∷ nodes) s =
    met_with from nodes (slice_set s node.0 (meet_of (value_at s node.0) (value_at from node.0)))

-- the node is among the first `count`
abbrev pub IsWithin : ℕ → NodeId → Type 0
IsWithin count node = node.0 < count

-- the event is one of the network's
abbrev pub IsEventOf : Circuit → order.Event → Type 0
IsEventOf net event = model.IsEvent net (meaning event)
