-- What the reader keeps of a subcircuit's nets and devices.
use Rattle.std.specs.Prelude.{ℕ, ◌≡◌, ◌<◌, ◌≤◌, ◌^◌, false, List, length, map}
use Rattle.std.specs.List.{All}
use Rattle.ca_lex.specs.Words.{upper_case}
use Rattle.ca_cell.specs.declared.raw.RawDevice.{RawDevice}
use Rattle.ca_cell.specs.declared.raw.RawCell.{RawCell}
use Rattle.ca_cell.specs.Rules.{PlacesWithin}
use Rattle.ca_spice.specs.declared.subcircuit.Subcircuit.{Subcircuit}
use Rattle.ca_cell.specs.Devices.{has_gate}
use Rattle.ca_net.specs.declared.scale.TheConstants.{WEAKEST, STRONGEST}

-- the device has the strength of some transistor, and without a gate the greatest, with its drain as its gate
pub record IsSound (device : RawDevice) : Type 0 where
  pub least : WEAKEST ≤ device.strength
  pub most : device.strength ≤ STRONGEST
  pub resistor : has_gate device.kind ≡ false → (device.strength ≡ STRONGEST) × (device.gate ≡ device.drain)

-- there are at least as many nets as pins, terminals are places among the nets, and each device is a
-- transistor or a resistor
pub record IsPlaced (pins : ℕ) (nets : List (List ℕ)) (devices : List RawDevice) : Type 0 where
  pub few_nets : length nets < 2 ^ 32
  pub few_devices : length devices < 2 ^ 32
  pub pins_within : pins ≤ length nets
  pub places : All (PlacesWithin (length nets)) devices
  pub sound : All IsSound devices

-- the same of a subcircuit
abbrev pub IsPlacedCell : RawCell → Type 0
IsPlacedCell raw = IsPlaced (length raw.pins) raw.nets raw.devices

-- the name's letters are in upper case
abbrev pub IsUpper : List ℕ → Type 0
IsUpper name = upper_case name ≡ name

-- the names of subcircuits
abbrev pub names_of : List Subcircuit → List (List ℕ)
names_of cells = map (λ cell. cell.name) cells
