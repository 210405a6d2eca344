-- Networks with a defect (after Hapke and others 2014). A defect is one of a cell, and names the cell's nodes
-- and devices.
use Rattle.std.specs.Prelude.{ℕ, ◌<◌, ◌≤◌, ◌+◌, ◌==◌, ◌&&◌, nat_lt, nat_le, not, Bool, IsTrue, if◌then◌else◌}
use Rattle.std.specs.Prelude.{List, [], ◌∷◌, ◌++◌, length, false, Option, Some, None, option_to_list}
use Rattle.std.specs.Prelude.{slice_get}
use Rattle.ca_net.specs.declared.scale.TheConstants.{INNER_NODE, BRIDGE}
use Rattle.ca_net.specs.declared.node.NodeKind.{NodeKind}
use Rattle.ca_net.specs.declared.node.NodeKind.TheVariants.{Storage}
use Rattle.ca_net.specs.declared.node.NodeId.{NodeId}
use Rattle.ca_net.specs.declared.device.DeviceKind.TheVariants as kind
use Rattle.ca_net.specs.declared.device.Device.{Device}
use Rattle.ca_net.specs.Circuit.{Circuit}
use Rattle.ca_cell.specs.Devices.{has_gate}
use Rattle.ca_cell.specs.declared.defect.Defect.{Defect}
use Rattle.ca_cell.specs.declared.defect.Defect.TheVariants.{OpenDrain, OpenSource, OpenGate, OpenPin}
use Rattle.ca_cell.specs.declared.defect.Defect.TheVariants.{Short}

-- the device has a gate
abbrev pub is_gated : Device → Bool
is_gated device = has_gate device.kind

-- there is a device with a gate at a place
abbrev pub gated_in : Option Device → Bool
gated_in None = false
gated_in (Some device) = is_gated device

abbrev pub gated_at : List Device → ℕ → Bool
gated_at devices place = gated_in (slice_get devices place)

-- the device with its drain on the node n; without a gate, its drain is given as its gate
abbrev pub drain_on : ℕ → Device → Device
drain_on n device = if is_gated device then record device { a = record { 0 = n } }
    else record device { a = record { 0 = n }; gate = record { 0 = n } }

-- the device with its source on the node n
abbrev pub source_on : ℕ → Device → Device
source_on n device = record device { b = record { 0 = n } }

-- the device with its gate on the node n
abbrev pub gate_on : ℕ → Device → Device
gate_on n device = record device { gate = record { 0 = n } }

-- the device at a place of the list, with the defect: one terminal of one device is on the new node, or each
-- gate of a transistor that was on the pin; only transistors have gates
abbrev pub device_with : Defect → ℕ → ℕ → Device → Device
device_with (OpenDrain opened) new place device = if place == opened.0 then drain_on new device else device
device_with (OpenSource opened) new place device = if place == opened.0 then source_on new device else device
device_with (OpenGate opened) new place device =
    if is_gated device && place == opened.0 then gate_on new device else device
device_with (OpenPin pin) new place device =
    if is_gated device && device.gate.0 == pin.0 then gate_on new device else device
device_with (Short low high) new place device = device

-- these devices, the first of which is at a place of the list, with the defect
abbrev pub changed_from : Defect → ℕ → ℕ → List Device → List Device
changed_from defect new place [] = []
changed_from defect new place (device ∷ more) = device_with defect new place device
    ∷ changed_from defect new (place + 1) more

-- the devices that were there, with the defect, which adds the node `new`
abbrev pub changed_devices : List Device → ℕ → Defect → List Device
changed_devices devices new defect = changed_from defect new 0 devices

-- the device of a short: it always conducts between the lower node and the higher one
abbrev pub bridge : NodeId → NodeId → Device
bridge low high = record { kind = kind.D; strength = BRIDGE; gate = low; a = low; b = high }

-- the node that a defect adds: that of an open, an inner node
abbrev pub new_node : Defect → Option NodeKind
new_node (OpenDrain opened) = Some (Storage INNER_NODE)
new_node (OpenSource opened) = Some (Storage INNER_NODE)
new_node (OpenGate opened) = Some (Storage INNER_NODE)
new_node (OpenPin pin) = Some (Storage INNER_NODE)
new_node (Short low high) = None

-- the device that a defect adds: the bridge of a short
abbrev pub new_device : Defect → Option Device
new_device (OpenDrain opened) = None
new_device (OpenSource opened) = None
new_device (OpenGate opened) = None
new_device (OpenPin pin) = None
new_device (Short low high) = Some (bridge low high)

-- the nodes with the defect: a new one is the last
abbrev pub nodes_with : List NodeKind → Defect → List NodeKind
nodes_with nodes defect = nodes ++ option_to_list (new_node defect)

-- the devices with the defect, which adds the node `new`: a new one is the last
abbrev pub devices_with : List Device → ℕ → Defect → List Device
devices_with devices new defect = changed_devices devices new defect ++ option_to_list (new_device defect)

-- the network with the defect
abbrev pub circuit_with : Circuit → Defect → Circuit
circuit_with net defect = record {
  nodes = nodes_with net.nodes defect;
  devices = devices_with net.devices
      (length net.nodes) defect;
}

-- of a cell with this many input pins, the node n is one: they follow power and ground
abbrev pub is_pin : ℕ → ℕ → Bool
is_pin inputs n = nat_le 2 n && nat_lt n (2 + inputs)

-- two nodes of a cell between which there is a short: different ones in their order, neither an input pin,
-- and not power with ground
abbrev pub is_short : ℕ → ℕ → ℕ → Bool
is_short inputs low high =
    nat_lt low high && not (is_pin inputs low) && not (is_pin inputs high) && not (low == 0 && high == 1)

-- the defect is one of a cell with this network and this many input pins
abbrev pub IsDefect : Circuit → ℕ → Defect → Type 0
IsDefect net inputs (OpenDrain opened) = opened.0 < length net.devices
IsDefect net inputs (OpenSource opened) = opened.0 < length net.devices
IsDefect net inputs (OpenGate opened) = IsTrue (gated_at net.devices opened.0)
IsDefect net inputs (OpenPin pin) = (2 ≤ pin.0) × (pin.0 < 2 + inputs)
IsDefect net inputs (Short low high) = (high.0 < length net.nodes) × IsTrue (is_short inputs low.0 high.0)
