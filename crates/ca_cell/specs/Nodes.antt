-- The nodes of a cell: which are input pins, what each is called, and how many defects a cell has.
use Rattle.std.specs.Prelude.{ℕ, ◌+◌, ◌-◌, ◌*◌, ◌/◌, ◌≡◌, ◌≢◌, ◌<◌, ◌≤◌, List, length, slice_get, Some}
use Rattle.std.specs.Prelude.{option_map}
use Rattle.std.specs.List.{All}
use Rattle.ca_net.specs.declared.device.Device.{Device}
use Rattle.ca_cell.specs.declared.raw.RawCell.{RawCell}
use Rattle.ca_cell.specs.Raw.{is_input, is_output, role_count, inner_count, node_of, circuit_of}
use Rattle.ca_cell.specs.Devices.{open_count}

-- the node is that of an input pin
abbrev pub IsInputPin : RawCell → ℕ → Type 0
IsInputPin raw n = (2 ≤ n) × (n < 2 + role_count is_input raw.pins)

-- the device has neither its drain nor its source on an input pin
abbrev pub IsOffInputPins : RawCell → Device → Type 0
IsOffInputPins raw device = (¬ (IsInputPin raw device.a.0)) × (¬ (IsInputPin raw device.b.0))

-- input pins are gates only: no device of the network has its drain or its source on one
abbrev pub GatesOnly : RawCell → Type 0
GatesOnly raw = All (IsOffInputPins raw) (circuit_of raw).devices

-- the name of a node is that of the first net whose node it is
pub record IsNameOf (raw : RawCell) (n : ℕ) (name : List ℕ) : Type 0 where
  pub place : ℕ
  pub named : slice_get raw.nets place ≡ Some name
  pub is_node : node_of raw.pins place ≡ n
  pub none_before : (k : ℕ) → k < place → node_of raw.pins k ≢ n

-- the name of a device is that of its card
abbrev pub IsDeviceName : RawCell → ℕ → List ℕ → Type 0
IsDeviceName raw d name = option_map (λ device. device.name) (slice_get raw.devices d) ≡ Some name

-- how many nodes are no input pins: power, ground, the output pins and the inner nets
abbrev pub free_count : RawCell → ℕ
free_count raw = 2 + role_count is_output raw.pins + inner_count raw

-- how many pairs of different nodes there are among `nodes` nodes
abbrev pub pair_count : ℕ → ℕ
pair_count nodes = nodes * (nodes - 1) / 2

-- how many defects there are: the opens of the devices, one open for each input pin, and a short for each
-- pair of nodes that are no input pins, except power with ground
abbrev pub defect_count : RawCell → ℕ
defect_count raw = open_count raw.devices + role_count is_input raw.pins + (pair_count (free_count raw) - 1)
