-- Vectors of a flat network as code keeps them. Only the contracts of private functions and types cite this.
use Rattle.std.specs.Prelude.{ℕ, ◌+◌, ◌≡◌, ◌<◌, ◌≤◌, List, length, slice_index}
use Rattle.ca_net.specs.declared.trit.Trit.{Trit}
use Rattle.ca_net.specs.declared.trit.Trit.TheVariants.{Zero, One, X}
use Rattle.ca_net.specs.declared.node.NodeId.{NodeId}
use Rattle.ca_net.specs.Circuit.{Circuit}
use Rattle.ca_net.specs.State.{value_at}
use Rattle.ca_flat.specs.Chip.{Chip}
use Rattle.ca_flat.specs.Flat.{flat}
use Rattle.ca_flat.specs.Pair.{net_value, bit_count}
use Rattle.ca_view.specs.Linked.{IsPinned}
use Rattle.ca_chip_replay.specs.ChipRun.{RunOf, input_nodes}

-- no net is known
abbrev pub unknown_nets : ℕ → Trit
unknown_nets net = X

-- a value for each of this many nodes: those of power and ground, of each of this many nets that of the
-- function, and nothing is known of the others
pub record IsVector (nodes nets : ℕ) (value : ℕ → Trit) (vector : List Trit) : Type 0 where
  pub count : length vector ≡ nodes
  pub power : value_at vector 0 ≡ One
  pub ground : value_at vector 1 ≡ Zero
  pub each : (net : ℕ) → net < nets → value_at vector (2 + net) ≡ value net
  pub past : (n : ℕ) → 2 + nets ≤ n → value_at vector n ≡ X

-- the two lists have one value at each place
abbrev pub HaveOneValue : List Trit → List Trit → Type 0
HaveOneValue one other = (n : ℕ) → value_at one n ≡ value_at other n

-- the network, the nodes of the inputs, and the vectors, whose bits begin at 0 and after the chip inputs
pub record IsReady (run : RunOf) (net : Circuit) (inputs : List NodeId)
    (first last : List Trit) : Type 0 where
  pub pinned : IsPinned run.chip
  pub few : length run.pair ≡ bit_count run.chip
  pub is_net : net ≡ flat run.chip run.given
  pub inputs_are : inputs ≡ input_nodes run.chip
  pub first_is : IsVector (length net.nodes) (length run.chip.nets) (net_value run.chip run.pair 0) first
  pub last_is : IsVector (length net.nodes) (length run.chip.nets)
      (net_value run.chip run.pair (length run.chip.inputs)) last

-- the values of the observed outputs in a state of the flat network
pub record AreOutputValues (chip : Chip) (end values : List Trit) : Type 0 where
  pub count : length values ≡ length chip.outputs
  pub each : (o : ℕ) → o < length chip.outputs
      → value_at values o ≡ value_at end (2 + slice_index chip.outputs o)

-- so are those of the first outputs
pub record AreFirstValues (chip : Chip) (end : List Trit) (count : ℕ) (values : List Trit) : Type 0 where
  pub room : length values ≡ count
  pub each : (o : ℕ) → o < count → value_at values o ≡ value_at end (2 + slice_index chip.outputs o)
