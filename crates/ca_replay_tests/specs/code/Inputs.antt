-- Lists of the input nodes of a network.
use Rattle.std.specs.Prelude.{ℕ, ◌≡◌, ◌<◌, List}
use Rattle.std.specs.List.{All, Contains}
use Rattle.ca_net.specs.declared.node.NodeId.{NodeId}
use Rattle.ca_net.specs.declared.node.NodeKind.TheVariants.{Input}
use Rattle.ca_net.specs.Circuit.{Circuit, kind_at, IsInput}
use Rattle.ca_order.specs.Allowed.{numbers}

-- the list has the input nodes among the first n nodes
pub record AreInputs (net : Circuit) (n : ℕ) (inputs : List NodeId) : Type 0 where
  pub are_inputs : All (λ input. IsInput net input.0) inputs
  pub listed : (m : ℕ) → m < n → kind_at net m ≡ Input → Contains (numbers inputs) m
