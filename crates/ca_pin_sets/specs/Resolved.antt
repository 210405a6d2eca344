-- A subcircuit with the nets of each input pin's set written as the pin.
use Rattle.std.specs.Prelude.{ℕ, ◌≡◌, ◌+◌, ◌==◌, Bool, not, ◌&&◌, if◌then◌else◌, List, [], ◌∷◌, map, filter}
use Rattle.std.specs.Prelude.{slice_get, unwrap_or}
use Rattle.ca_cell.specs.declared.raw.RawPin.{RawPin}
use Rattle.ca_cell.specs.declared.raw.RawDevice.{RawDevice}
use Rattle.ca_cell.specs.declared.raw.RawCell.{RawCell}
use Rattle.ca_cell.specs.Rules.{IsRaw}
use Rattle.ca_pin_sets.specs.Groups.{is_resistor}
use Rattle.ca_pin_sets.specs.Homes.{is_input_net, homes_of}

-- the net is its own home: it is in no pin's set
abbrev pub is_kept : ℕ → ℕ → Bool
is_kept place home = home == place

-- the names of these nets, whose homes are these and the first of which is at a place, without those in a
-- pin's set
abbrev pub kept_nets : ℕ → List ℕ → List (List ℕ) → List (List ℕ)
kept_nets place (home ∷ homes) (net ∷ nets) = if is_kept place home
    then net ∷ kept_nets (place + 1) homes nets else kept_nets (place + 1) homes nets
kept_nets place _ _ = []

-- the places to which nets with these homes come, the first of which is at a place, with this many kept
-- before it: a kept net comes after those, and another to its pin, since pins keep their places
abbrev pub places_from : ℕ → ℕ → List ℕ → List ℕ
places_from place before [] = []
places_from place before (home ∷ homes) = if is_kept place home
    then before ∷ places_from (place + 1) (before + 1) homes else home ∷ places_from (place + 1) before homes

-- the place to which a net came
abbrev pub place_in : List ℕ → ℕ → ℕ
place_in places net = unwrap_or (slice_get places net) net

-- the device with its terminals at these places
abbrev pub moved : List ℕ → RawDevice → RawDevice
moved places device = record device {
  drain = place_in places device.drain;
  gate = place_in places device.gate;
  source = place_in places device.source;
}

-- a resistor with both ends on one input pin is no device
abbrev pub is_dropped : List RawPin → RawDevice → Bool
is_dropped pins device =
    is_resistor device && (device.drain == device.source && is_input_net pins device.drain)

abbrev pub kept_devices : List RawPin → List ℕ → List RawDevice → List RawDevice
kept_devices pins places devices =
    filter (λ device. not (is_dropped pins device)) (map (moved places) devices)

-- the subcircuit with the nets of each input pin's set written as the pin, and without resistors that have
-- both ends on one input pin
abbrev pub resolved : RawCell → RawCell
resolved raw = record {
  pins = raw.pins;
  nets = kept_nets 0 (homes_of raw) raw.nets;
  devices = kept_devices raw.pins (places_from 0 0 (homes_of raw)) raw.devices;
}

-- a resolved subcircuit is resolved as itself
abbrev pub ResolvedStays : Type 0
ResolvedStays = (raw : RawCell) → IsRaw raw → resolved (resolved raw) ≡ resolved raw
