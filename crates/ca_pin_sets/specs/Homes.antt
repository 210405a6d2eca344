-- Which inner nets belong to input pins: a group belongs to the first input pin, in pin order, that a
-- resistor joins to one of its nets.
use Rattle.std.specs.Prelude.{ℕ, min, Bool, false, ◌&&◌, if◌then◌else◌, List, [], ◌∷◌, length, map}
use Rattle.std.specs.Prelude.{replicate}
use Rattle.std.specs.List.{range_with_len}
use Rattle.std.specs.Prelude.{slice_get, slice_set, unwrap_or, Option, Some, None, option_and_then}
use Rattle.ca_cell.specs.declared.raw.RawPin.{RawPin}
use Rattle.ca_cell.specs.declared.raw.RawDevice.{RawDevice}
use Rattle.ca_cell.specs.declared.raw.RawCell.{RawCell}
use Rattle.ca_cell.specs.Raw.{is_input}
use Rattle.ca_pin_sets.specs.Groups.{is_resistor, is_inner, group_of, groups_of}

-- the net at a place is that of an input pin
abbrev pub is_input_at : Option RawPin → Bool
is_input_at None = false
is_input_at (Some pin) = is_input pin.role

abbrev pub is_input_net : List RawPin → ℕ → Bool
is_input_net pins net = is_input_at (slice_get pins net)

-- the lower of a pin and another, if there is another
abbrev pub first_of : ℕ → Option ℕ → ℕ
first_of pin None = pin
first_of pin (Some other) = min pin other

-- the owners of groups where a resistor joins an input pin to an inner net: the net's group belongs to the
-- pin, if no pin before it has it
abbrev pub claimed : List RawPin → List ℕ → ℕ → ℕ → List (Option ℕ) → List (Option ℕ)
claimed pins groups pin net owners = if is_input_net pins pin && is_inner (length pins) net
    then slice_set owners (group_of groups net)
    (Some (first_of pin (option_and_then (λ owner. owner) (slice_get owners (group_of groups net)))))
    else owners

-- a resistor may have the pin at either end
abbrev pub claimed_by : List RawPin → List ℕ → RawDevice → List (Option ℕ) → List (Option ℕ)
claimed_by pins groups device owners = if is_resistor device
    then claimed pins groups device.source device.drain
    (claimed pins groups device.drain device.source owners)
    else owners

-- the owners after these devices
abbrev pub owners_after : List RawPin → List ℕ → List (Option ℕ) → List RawDevice → List (Option ℕ)
owners_after pins groups owners [] = owners
owners_after pins groups owners (device ∷ devices) =
    owners_after pins groups (claimed_by pins groups device owners) devices

-- the owners of the groups of a subcircuit's nets
abbrev pub owners_of : RawCell → List (Option ℕ)
owners_of raw =
    owners_after raw.pins (groups_of raw) (replicate (length raw.nets) None) raw.devices

-- the net whose node a net is: the input pin to which its group belongs, or itself
abbrev pub home_in : ℕ → List ℕ → List (Option ℕ) → ℕ → ℕ
home_in pins groups owners net = if is_inner pins net
    then unwrap_or (option_and_then (λ owner. owner) (slice_get owners (group_of groups net))) net else net

abbrev pub home_of : RawCell → ℕ → ℕ
home_of raw net = home_in (length raw.pins) (groups_of raw) (owners_of raw) net

-- the homes of all nets, in order
abbrev pub homes_of : RawCell → List ℕ
homes_of raw = map (home_of raw) (range_with_len 0 (length raw.nets))
