-- One run of a network between two vectors: long phases of rounds that settle all nodes, and events between
-- them.
use Rattle.std.specs.Prelude.{ℕ, zero, suc, ◌≡◌, Bool, true, false, if◌then◌else◌, List, [], ◌∷◌, length}
use Rattle.std.specs.Prelude.{slice_set}
use Rattle.std.specs.List.{All, Contains, range_with_len}
use Rattle.ca_net.specs.declared.trit.Trit.{Trit}
use Rattle.ca_net.specs.declared.trit.Trit.TheVariants.{Zero, One, X}
use Rattle.ca_net.specs.declared.node.NodeId.{NodeId}
use Rattle.ca_net.specs.Circuit.{Circuit, IsInput, IsStorage}
use Rattle.ca_net.specs.State.{IsState, value_at}
use Rattle.ca_net.specs.Event.{Event, Settle, Set, Run}
use Rattle.ca_net.specs.Limits.{HasInputs}
use Rattle.ca_order.specs.Allowed.{numbers}

-- the state in which a run begins: the inputs are those of the vector, and no storage node is known
pub record IsStart (net : Circuit) (v s : List Trit) : Type 0 where
  pub is_state : IsState net s
  pub inputs : HasInputs net v s
  pub unknown : (n : ℕ) → IsStorage net n → value_at s n ≡ X

-- the nodes of the network
abbrev pub all_nodes : Circuit → List ℕ
all_nodes net = range_with_len 0 (length net.nodes)

-- this many rounds, each of which settles all nodes at once
unfoldable pub rounds : Circuit → ℕ → List Event
rounds net zero = []
rounds net (suc count) = Settle (all_nodes net) ∷ rounds net count

-- as many rounds as the network has nodes
abbrev pub long_phase : Circuit → List Event
long_phase net = rounds net (length net.nodes)

-- whether two values are the same
abbrev pub is_same : Trit → Trit → Bool
is_same Zero Zero = true
is_same One One = true
is_same X X = true
is_same _ _ = false

-- the settings of inputs to the values of a vector: in turn, each that isn't at its value
unfoldable pub settings : List Trit → List NodeId → List Trit → List Event
settings v [] s = []
settings v (input ∷ inputs) s =
    if is_same (value_at s input.0) (value_at v input.0) then settings v inputs s
    else Set input.0 (value_at v input.0) ∷ settings v inputs (slice_set s input.0 (value_at v input.0))

-- the nodes are inputs of the network, and each other input has one value in both vectors
pub record CoverInputs (net : Circuit) (v1 v2 : List Trit) (inputs : List NodeId) : Type 0 where
  pub are_inputs : All (λ input. IsInput net input.0) inputs
  pub others : (n : ℕ) → IsInput net n → (Contains (numbers inputs) n → ⊥)
      → value_at v1 n ≡ value_at v2 n

-- The run that these events name ends in the state `end`: a long phase under the first vector from unknown
-- storage nodes, the events, the settings of these inputs to the last vector, and a long phase.
pub record IsReplay (net : Circuit) (inputs : List NodeId) (v1 v2 : List Trit) (events : List Event)
    (end : List Trit) : Type 0 where
  pub start : List Trit
  pub settled : List Trit
  pub changed : List Trit
  pub set : List Trit
  pub begins : IsStart net v1 start
  pub first_run : Run net start (long_phase net) settled
  pub change_run : Run net settled events changed
  pub set_run : Run net changed (settings v2 inputs changed) set
  pub last_run : Run net set (long_phase net) end
