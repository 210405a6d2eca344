-- Inner nets in groups: resistors join the nets of a group, one with the next, through inner nets alone.
use Rattle.std.specs.Prelude.{ℕ, ◌==◌, nat_le, min, max, Bool, not, ◌&&◌, if◌then◌else◌, List, [], ◌∷◌, map}
use Rattle.std.specs.Prelude.{length, slice_get, unwrap_or}
use Rattle.std.specs.List.{range_with_len}
use Rattle.ca_cell.specs.declared.raw.RawDevice.{RawDevice}
use Rattle.ca_cell.specs.declared.raw.RawCell.{RawCell}
use Rattle.ca_cell.specs.Devices.{has_gate}

-- a device without a gate is a resistor
abbrev pub is_resistor : RawDevice → Bool
is_resistor device = not (has_gate device.kind)

-- the net at a place is an inner one, where there are this many pins: pins are the first nets
abbrev pub is_inner : ℕ → ℕ → Bool
is_inner pins net = nat_le pins net

-- each net is a group of its own, whose number is its place
abbrev pub alone : ℕ → List ℕ
alone nets = range_with_len 0 nets

-- two groups become one, which has the lower of their numbers
abbrev pub united : ℕ → ℕ → List ℕ → List ℕ
united one other groups = map (λ group. if group == max one other then min one other else group) groups

-- the group of the net at a place
abbrev pub group_of : List ℕ → ℕ → ℕ
group_of groups net = unwrap_or (slice_get groups net) net

-- a resistor between inner nets makes their groups one
abbrev pub joins : ℕ → RawDevice → Bool
joins pins device = is_resistor device && (is_inner pins device.drain && is_inner pins device.source)

abbrev pub joined : ℕ → RawDevice → List ℕ → List ℕ
joined pins device groups = if joins pins device
    then united (group_of groups device.drain) (group_of groups device.source) groups else groups

-- the groups after these devices
abbrev pub groups_after : ℕ → List ℕ → List RawDevice → List ℕ
groups_after pins groups [] = groups
groups_after pins groups (device ∷ devices) = groups_after pins (joined pins device groups) devices

-- the groups of a subcircuit's nets
abbrev pub groups_of : RawCell → List ℕ
groups_of raw = groups_after (length raw.pins) (alone (length raw.nets)) raw.devices
