-- The list of the defects of a cell.
use Rattle.std.specs.Prelude.{ℕ, zero, suc, ◌+◌, ◌≡◌, ◌↔◌, if◌then◌else◌, List, [], ◌∷◌, ◌++◌, length}
use Rattle.std.specs.Prelude.{Bool, Contains}
use Rattle.ca_net.specs.declared.device.Device.{Device}
use Rattle.ca_net.specs.Circuit.{Circuit}
use Rattle.ca_cell.specs.declared.raw.RawCell.{RawCell}
use Rattle.ca_cell.specs.Raw.{is_input, role_count, circuit_of}
use Rattle.ca_cell.specs.Nodes.{defect_count}
use Rattle.ca_cell.specs.declared.defect.Defect.{Defect}
use Rattle.ca_cell.specs.declared.defect.Defect.TheVariants.{OpenDrain, OpenSource, OpenGate, OpenPin}
use Rattle.ca_cell.specs.declared.defect.Defect.TheVariants.{Short}
use Rattle.ca_cell.specs.Defect.{gated_at, is_short, IsDefect, circuit_with}

-- the defects that each of this many places gives, from a place on, in order
abbrev pub each_from : (ℕ → List Defect) → ℕ → ℕ → List Defect
each_from give place zero = []
each_from give place (suc count) = give place ++ each_from give (place + 1) count

-- the opens of a device: at its drain, at its source, and at its gate if it has one
abbrev pub opens_of : Bool → ℕ → List Defect
opens_of gated place = OpenDrain (record { 0 = place }) ∷ OpenSource (record { 0 = place })
    ∷ (if gated then OpenGate (record { 0 = place }) ∷ [] else [])

abbrev pub device_opens : List Device → ℕ → List Defect
device_opens devices place = opens_of (gated_at devices place) place

-- the open of an input pin, with this many before it
abbrev pub pin_open : ℕ → List Defect
pin_open before = OpenPin (record { 0 = 2 + before }) ∷ []

-- the short of two nodes, where there is one
abbrev pub short_of : ℕ → ℕ → ℕ → List Defect
short_of inputs low high =
    if is_short inputs low high then Short (record { 0 = low }) (record { 0 = high }) ∷ [] else []

-- the shorts of a node with higher ones
abbrev pub shorts_of : ℕ → ℕ → ℕ → List Defect
shorts_of nodes inputs low = each_from (short_of inputs low) 0 nodes

-- The defects of a cell with this network and this many input pins: the opens of each device in order, the
-- open of each input pin in order, and the shorts in the order of their lower nodes and then of their higher
-- nodes.
abbrev pub listed_defects : Circuit → ℕ → List Defect
listed_defects net inputs =
    each_from (device_opens net.devices) 0 (length net.devices)
    ++ (each_from pin_open 0 inputs ++ each_from (shorts_of (length net.nodes) inputs) 0 (length net.nodes))

-- the defects of a cell
abbrev pub defects_of : RawCell → List Defect
defects_of raw = listed_defects (circuit_of raw) (role_count is_input raw.pins)

-- the defect is one of the cell's
abbrev pub IsDefectOf : RawCell → Defect → Type 0
IsDefectOf raw defect = IsDefect (circuit_of raw) (role_count is_input raw.pins) defect

-- the network of the cell with the defect
abbrev pub faulty_of : RawCell → Defect → Circuit
faulty_of raw defect = circuit_with (circuit_of raw) defect

-- the list has exactly the defects of a cell, and as many as are counted
pub record ListsDefects (raw : RawCell) : Type 0 where
  pub listed : (defect : Defect) → Contains (defects_of raw) defect ↔ IsDefectOf raw defect
  pub count : length (defects_of raw) ≡ defect_count raw
