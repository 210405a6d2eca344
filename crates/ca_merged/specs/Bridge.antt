-- Shorts between two nodes of an instance, of which one is an input pin.
use Rattle.std.specs.Prelude.{ℕ, ◌+◌, ◌≡◌, ◌<◌, ◌≤◌, ◌⊎◌, List, [], ◌∷◌, ◌++◌, length, min, max, None}
use Rattle.std.specs.List.{Contains}
use Rattle.ca_net.specs.declared.node.NodeId.{NodeId}
use Rattle.ca_net.specs.declared.trit.Trit.{Trit}
use Rattle.ca_net.specs.Circuit.{Circuit}
use Rattle.ca_net.specs.PairRun.{EndsAt}
use Rattle.ca_cell.specs.declared.rule.CellRule.TheVariants.{NoOutput}
use Rattle.ca_cell.specs.Rules.{KeepsAllBut}
use Rattle.ca_cell.specs.declared.defect.Defect.TheVariants.{Short}
use Rattle.ca_cell.specs.Defect.{bridge}
use Rattle.ca_cell.specs.Exposes.{opposite_of}
use Rattle.ca_flat.specs.declared.chip_defect.ChipDefect.{ChipDefect}
use Rattle.ca_flat.specs.Chip.{Chip, circuit_at, inputs_at, net_of, count_of, Drives}
use Rattle.ca_flat.specs.Flat.{outer_count, place, flat}
use Rattle.ca_flat.specs.Pair.{first_vector, last_vector, NetEndsAt}
use Rattle.ca_merged.specs.Cluster.{seat, cluster_cell}
use Rattle.ca_merged.specs.Merged.{AreMembers, cluster_place}

-- a node as it is named in devices and defects
abbrev pub node_id : ℕ → NodeId
node_id n = record { 0 = n }

-- the network with one more device, which always conducts between the two nodes
abbrev pub with_bridge : Circuit → ℕ → ℕ → Circuit
with_bridge net m n =
    record { nodes = net.nodes; devices = net.devices ++ (bridge (node_id m) (node_id n) ∷ []) }

-- the node is that of an input pin of the instance
abbrev pub IsInputPin : Chip → ℕ → ℕ → Type 0
IsInputPin chip u n = (2 ≤ n) × (n < 2 + inputs_at chip u)

-- two nodes of the instance's cell in their order, of which one at least is an input pin
pub record IsBridge (chip : Chip) (u m n : ℕ) : Type 0 where
  pub known : u < count_of chip
  pub within : n < length (circuit_at chip u).nodes
  pub ordered : m < n
  pub pin : IsInputPin chip u m ⊎ IsInputPin chip u n

-- the flat network with the bridge
abbrev pub bridged : Chip → ℕ → ℕ → ℕ → Circuit
bridged chip u m n = with_bridge (flat chip None) (place chip u m) (place chip u n)

-- every run of the flat network with the bridge, for the pair, ends with v at the net
abbrev pub BridgeEndsAt : Chip → ℕ → ℕ → ℕ → List Trit → ℕ → Trit → Type 0
BridgeEndsAt chip u m n pair net v =
    EndsAt (bridged chip u m n) (first_vector chip pair) (last_vector chip pair) (2 + net) v

-- at the net the good flat network ends with a value, and that with the bridge with the opposite
pub record BridgeDetectsAt (chip : Chip) (u m n : ℕ) (pair : List Trit) (net : ℕ) : Type 0 where
  pub value : Trit
  pub good : NetEndsAt chip None pair net value
  pub faulty : BridgeEndsAt chip u m n pair net (opposite_of value)

-- the net of a pin of the instance u, whose node is n, is one that a member drives
pub record IsDrivenPin (chip : Chip) (members : List ℕ) (u n : ℕ) : Type 0 where
  pub pin : ℕ
  pub node : n ≡ 2 + pin
  pub outer : n < outer_count chip u
  pub driver : Drives chip (net_of chip u pin)
  pub member : Contains members driver.instance

-- the node n of the instance u is one of the cluster, and none of its input pins: a rail, a net that a member
-- drives, or an inner node of a member
abbrev pub IsInCluster : Chip → List ℕ → ℕ → ℕ → Type 0
IsInCluster chip members u n =
    (n < 2) ⊎ (IsDrivenPin chip members u n ⊎ ((outer_count chip u ≤ n) × Contains members u))

-- The members have the ends of the bridge, which are two nodes of the flat network, and as one cell they
-- break no rule but that it may have no output pin.
pub record HoldsBridge (chip : Chip) (members : List ℕ) (u m n : ℕ) : Type 0 where
  pub are_members : AreMembers chip members
  pub keeps : KeepsAllBut NoOutput (cluster_cell chip members)
  pub low : IsInCluster chip members u m
  pub high : IsInCluster chip members u n
  pub apart : place chip u m ≡ place chip u n → ⊥

-- the short of the merged chip that is the bridge
abbrev pub short_of : Chip → List ℕ → ℕ → ℕ → ℕ → ChipDefect
short_of chip members u m n = record {
  instance = cluster_place chip members;
  defect = Short (node_id (min (seat chip members u m) (seat chip members u n)))
      (node_id (max (seat chip members u m) (seat chip members u n)));
}
