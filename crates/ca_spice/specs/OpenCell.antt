-- The subcircuit that is being read, and what its cards make of it.
use Rattle.std.specs.Prelude.{ℕ, Bool, true, false, not, List, [], ◌∷◌, ◌++◌, map, Option, Some, None, Result}
use Rattle.std.specs.Prelude.{Ok, Err}
use Rattle.std.specs.List.{list_any}
use Rattle.std.specs.Str.{bytes_eq}
use Rattle.ca_lex.specs.Reading.{unless}
use Rattle.ca_cell.specs.declared.raw.RawPin.{RawPin}
use Rattle.ca_cell.specs.declared.raw.RawDevice.{RawDevice}
use Rattle.ca_cell.specs.declared.strength.StrengthTable.{StrengthTable}
use Rattle.ca_cell.specs.Strength.{strength_of}
use Rattle.ca_net.specs.declared.scale.TheConstants.{STRONGEST}
use Rattle.ca_net.specs.declared.device.DeviceKind.{DeviceKind}
use Rattle.ca_net.specs.declared.device.DeviceKind.TheVariants as kind
use Rattle.ca_spice.specs.declared.fault.SpiceKind.{SpiceKind}
use Rattle.ca_spice.specs.declared.fault.SpiceKind.TheVariants.{BadCard, BadLength, DoubleName, NoPinInfo}
use Rattle.ca_spice.specs.declared.pin.Pin.{Pin}
use Rattle.ca_spice.specs.declared.subcircuit.Subcircuit.{Subcircuit}
use Rattle.ca_names.specs.Names.{with_name, place_with}
use Rattle.ca_spice.specs.PinInfo as info
use Rattle.ca_spice.specs.Mos.{Wiring, Sizes, wiring_of, sizes_of, ends_of, resistor_sizes}

-- a subcircuit whose .ENDS has not come: the line of its .SUBCKT, its name, its pins, the names of its nets
-- (the pins and then the inner nets in the order of first mention) and its devices
pub record OpenCell : Type 0 where
  pub line : ℕ
  pub name : List ℕ
  pub pins : List Pin
  pub nets : List (List ℕ)
  pub devices : List RawDevice

-- a pin that has no role yet
abbrev pub pin_of : List ℕ → Pin
pin_of name = record { name = name; role = None }

-- a subcircuit of these pins, as its .SUBCKT leaves it
abbrev pub new_cell : ℕ → List ℕ → List (List ℕ) → OpenCell
new_cell line name pins =
    record { line = line; name = name; pins = map pin_of pins; nets = pins; devices = [] }

-- the cell with these pins
abbrev pub with_pins : OpenCell → List Pin → OpenCell
with_pins cell pins =
    record { line = cell.line; name = cell.name; pins = pins; nets = cell.nets; devices = cell.devices }

abbrev pub has_roles : OpenCell → Result (List Pin) SpiceKind → Result OpenCell SpiceKind
has_roles cell (Ok pins) = Ok (with_pins cell pins)
has_roles cell (Err kind) = Err kind

-- *.PININFO gives pins their roles
unfoldable pub pin_info : List (List ℕ) → OpenCell → Result OpenCell SpiceKind
pin_info words cell = has_roles cell (info.pin_info cell.nets words cell.pins)

-- the nets with those of a device, in the order drain, gate, source
abbrev pub with_drain : Wiring → List (List ℕ) → List (List ℕ)
with_drain wiring nets = with_name wiring.drain nets

abbrev pub with_gate : Wiring → List (List ℕ) → List (List ℕ)
with_gate wiring nets = with_name wiring.gate (with_drain wiring nets)

abbrev pub with_source : Wiring → List (List ℕ) → List (List ℕ)
with_source wiring nets = with_name wiring.source (with_gate wiring nets)

-- a transistor is as strong as the table says, and a resistor as the strongest transistors
abbrev pub device_strength : StrengthTable → DeviceKind → Sizes → ℕ
device_strength table kind.N sizes = strength_of table sizes.width sizes.length
device_strength table kind.P sizes = strength_of table sizes.width sizes.length
device_strength table kind.D sizes = STRONGEST

-- the device of a card, whose terminals are places among the nets
abbrev pub device_of : StrengthTable → List ℕ → Wiring → Sizes → List (List ℕ) → RawDevice
device_of table name wiring sizes nets = record {
  name = name;
  kind = wiring.kind;
  strength = device_strength table wiring.kind sizes;
  width = record { 0 = sizes.width };
  length = record { 0 = sizes.length };
  drain = place_with wiring.drain nets;
  gate = place_with wiring.gate (with_drain wiring nets);
  source = place_with wiring.source (with_gate wiring nets);
}

-- the cell with the device of a card
abbrev pub with_device : StrengthTable → List ℕ → Wiring → Sizes → OpenCell → OpenCell
with_device table name wiring sizes cell = record {
  line = cell.line;
  name = cell.name;
  pins = cell.pins;
  nets = with_source wiring cell.nets;
  devices = cell.devices ++ device_of table name wiring sizes cell.nets ∷ [];
}

-- some device of the cell has the name
abbrev pub has_device : List ℕ → List RawDevice → Bool
has_device name devices = list_any (λ device. bytes_eq name device.name) devices

-- an M card whose form is kept
abbrev pub wired : StrengthTable → List ℕ → Wiring → OpenCell → Result OpenCell SpiceKind
wired table name wiring cell = elim (sizes_of wiring.params) [
  | None ↦ Err BadLength
  | Some sizes ↦ unless (has_device name cell.devices) DoubleName
      (Ok (with_device table name wiring sizes cell))
]

-- an M card adds a transistor
unfoldable pub mos : StrengthTable → List ℕ → List (List ℕ) → OpenCell → Result OpenCell SpiceKind
mos table name words cell = elim (wiring_of name words) [
  | None ↦ Err BadCard
  | Some wiring ↦ wired table name wiring cell
]

-- an R card adds a resistor
unfoldable pub resistor : StrengthTable → List ℕ → List (List ℕ) → OpenCell → Result OpenCell SpiceKind
resistor table name words cell = elim (ends_of name words) [
  | None ↦ Err BadCard
  | Some wiring ↦ unless (has_device name cell.devices) DoubleName
      (Ok (with_device table name wiring resistor_sizes cell))
]

-- these pins and then those with their roles; None where a pin has no role
unfoldable pub pins_after : List RawPin → List Pin → Option (List RawPin)
pins_after done [] = Some done
pins_after done (pin ∷ pins) = elim pin.role [
  | None ↦ None
  | Some role ↦ pins_after (done ++ record { name = pin.name; role = role } ∷ []) pins
]

-- the words after .ENDS: none, or the cell's name
abbrev pub is_ended_by : List (List ℕ) → List ℕ → Bool
is_ended_by [] name = true
is_ended_by (word ∷ []) name = bytes_eq word name
is_ended_by (word ∷ other ∷ words) name = false

-- the subcircuit of a cell whose pins have roles
abbrev pub subcircuit_with : OpenCell → Option (List RawPin) → Result Subcircuit SpiceKind
subcircuit_with cell None = Err NoPinInfo
subcircuit_with cell (Some pins) =
    Ok (record { name = cell.name; raw = record { pins = pins; nets = cell.nets; devices = cell.devices } })

-- .ENDS makes the cell a subcircuit
unfoldable pub ended : List (List ℕ) → OpenCell → Result Subcircuit SpiceKind
ended words cell = unless (not (is_ended_by words cell.name)) BadCard
    (subcircuit_with cell (pins_after [] cell.pins))
