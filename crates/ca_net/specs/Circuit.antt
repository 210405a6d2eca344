-- Networks of nodes and devices, as their two lists (Bryant 1984, the network model).
use Rattle.std.specs.Prelude.{ℕ, ◌^◌, ◌≡◌, ◌<◌, ◌≤◌, ◌⊎◌, List, length, slice_index_or}
use Rattle.std.specs.List.{All}
use Rattle.ca_net.specs.declared.scale.TheConstants.{INNER_NODE, OUTPUT_NET, WEAKEST, BRIDGE}
use Rattle.ca_net.specs.declared.node.NodeKind.{NodeKind}
use Rattle.ca_net.specs.declared.node.NodeKind.TheVariants.{Input, Storage}
use Rattle.ca_net.specs.declared.device.DeviceKind.{DeviceKind}
use Rattle.ca_net.specs.declared.device.DeviceKind.TheVariants.{N, P, D}
use Rattle.ca_net.specs.declared.device.Device.{Device}

-- what a network is seen as: its nodes and its devices, each named by its place in its list
pub record Circuit : Type 0 where
  pub nodes : List NodeKind
  pub devices : List Device

-- the kind of the node at a place; past the list it is that of an input node, so that a storage node is in
-- the list
abbrev pub kind_at : Circuit → ℕ → NodeKind
kind_at net n = slice_index_or net.nodes n Input

-- n is an input node of the network
abbrev pub IsInput : Circuit → ℕ → Type 0
IsInput net n = (n < length net.nodes) × (kind_at net n ≡ Input)

-- n is a storage node of the network
abbrev pub IsStorage : Circuit → ℕ → Type 0
IsStorage net n = kind_at net n ≡ Input → ⊥

-- the size of a storage node is that of an inner node or that of an output net
abbrev pub HasSize : NodeKind → Type 0
HasSize Input = Unit {0}
HasSize (Storage size) = (size ≡ INNER_NODE) ⊎ (size ≡ OUTPUT_NET)

-- the strength is at least that of the weakest transistors and at most that of a bridge
abbrev pub IsStrength : ℕ → Type 0
IsStrength strength = (WEAKEST ≤ strength) × (strength ≤ BRIDGE)

-- the device has such a strength
abbrev pub HasStrength : Device → Type 0
HasStrength d = IsStrength d.strength

-- each node that the device names is among the first `count`
abbrev pub NamesWithin : ℕ → Device → Type 0
NamesWithin count d = (d.gate.0 < count) × (d.a.0 < count) × (d.b.0 < count)

-- some node that the device names is past the first `count`
abbrev pub NamesPast : ℕ → Device → Type 0
NamesPast count d = ¬ (NamesWithin count d)

-- what every network keeps
pub record IsWellFormed (net : Circuit) : Type 0 where
  pub few_nodes : length net.nodes < 2 ^ 32
  pub few_devices : length net.devices < 2 ^ 32
  pub named : All (NamesWithin (length net.nodes)) net.devices
  pub sizes : All HasSize net.nodes
  pub strengths : All HasStrength net.devices

-- the gate of a device that always conducts is not looked at; it is given as the device's drain
abbrev pub GateIsDrainOf : DeviceKind → Device → Type 0
GateIsDrainOf N d = Unit {0}
GateIsDrainOf P d = Unit {0}
GateIsDrainOf D d = d.gate ≡ d.a

-- a device that always conducts has its drain as its gate
abbrev pub GateIsDrain : Device → Type 0
GateIsDrain d = GateIsDrainOf d.kind d
