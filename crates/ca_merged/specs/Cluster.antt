-- Some instances of a chip as one cell. Its output pins are all nets that members drive, its input pins the
-- other nets on members' input pins, both in net order; its inner nodes and its devices are those of the
-- members in their order.
use Rattle.std.specs.Prelude.{ℕ, ◌+◌, ◌-◌, ◌&&◌, eqb, nat_lt, not, Bool, if◌then◌else◌, List, [], ◌∷◌}
use Rattle.std.specs.Prelude.{◌++◌, map, length, replicate}
use Rattle.std.specs.List.{list_any, filter, flat_map, range_with_len, position_or_len, sum_by}
use Rattle.ca_cell.specs.declared.raw.Role.{Role}
use Rattle.ca_cell.specs.declared.raw.Role.TheVariants.{Input, Output, Power, Ground}
use Rattle.ca_cell.specs.declared.raw.RawPin.{RawPin}
use Rattle.ca_cell.specs.declared.raw.RawDevice.{RawDevice}
use Rattle.ca_cell.specs.declared.raw.RawCell.{RawCell}
use Rattle.ca_cell.specs.Raw.{node_of}
use Rattle.ca_flat.specs.Chip.{Chip, cell_at, inputs_at, outputs_at, net_of, output_net}
use Rattle.ca_flat.specs.Flat.{outer_count, inner_count}
use Rattle.ca_merged.specs.Blocks.{block_start}

-- the instance is a member
abbrev pub is_member : List ℕ → ℕ → Bool
is_member members u = list_any (eqb u) members

-- the nets on the input pins of the instance u
abbrev pub read_nets : Chip → ℕ → List ℕ
read_nets chip u = map (net_of chip u) (range_with_len 0 (inputs_at chip u))

-- the nets on its output pins
abbrev pub driven_nets : Chip → ℕ → List ℕ
driven_nets chip u = map (output_net chip u) (range_with_len 0 (outputs_at chip u))

-- a member has the net on an output pin
unfoldable pub is_driven : Chip → List ℕ → ℕ → Bool
is_driven chip members net = list_any (λ u. list_any (eqb net) (driven_nets chip u)) members

-- a member has the net on an input pin
unfoldable pub is_read : Chip → List ℕ → ℕ → Bool
is_read chip members net = list_any (λ u. list_any (eqb net) (read_nets chip u)) members

-- a member has the net on an input pin, and none on an output pin
abbrev pub is_fed : Chip → List ℕ → ℕ → Bool
is_fed chip members net = is_read chip members net && not (is_driven chip members net)

-- the nets of the cluster's input pins
unfoldable pub cluster_inputs : Chip → List ℕ → List ℕ
cluster_inputs chip members = filter (is_fed chip members) (range_with_len 0 (length chip.nets))

-- the nets of its output pins
unfoldable pub cluster_outputs : Chip → List ℕ → List ℕ
cluster_outputs chip members = filter (is_driven chip members) (range_with_len 0 (length chip.nets))

-- how many input pins and output pins it has
abbrev pub input_count : Chip → List ℕ → ℕ
input_count chip members = length (cluster_inputs chip members)

abbrev pub output_count : Chip → List ℕ → ℕ
output_count chip members = length (cluster_outputs chip members)

-- the cluster's node of a net that is on a pin of a member
unfoldable pub net_seat : Chip → List ℕ → ℕ → ℕ
net_seat chip members net =
    if is_driven chip members net
    then 2 + input_count chip members + position_or_len (eqb net) (cluster_outputs chip members)
    else 2 + position_or_len (eqb net) (cluster_inputs chip members)

-- The cluster's node of the node n of the member u: a rail, that of a pin's net, or an inner node, which
-- stands after those of the members before u.
unfoldable pub seat : Chip → List ℕ → ℕ → ℕ → ℕ
seat chip members u n =
    if nat_lt n 2 then n
    else (if nat_lt n (outer_count chip u) then net_seat chip members (net_of chip u (n - 2))
    else 2 + input_count chip members + output_count chip members
    + (block_start (inner_count chip) members u + (n - outer_count chip u)))

-- a pin without a name
abbrev pub bare_pin : Role → RawPin
bare_pin role = record { name = []; role = role }

-- power, ground, and this many input and output pins
abbrev pub pins_of : ℕ → ℕ → List RawPin
pins_of inputs outputs =
    bare_pin Power ∷ bare_pin Ground ∷ (replicate inputs (bare_pin Input) ++ replicate outputs
    (bare_pin Output))

-- a device of the member u: each terminal is on the cluster's net of its node
abbrev pub seated : Chip → List ℕ → ℕ → RawDevice → RawDevice
seated chip members u device = record device {
  name = [];
  drain = seat chip members u (node_of (cell_at chip u).pins device.drain);
  gate = seat chip members u (node_of (cell_at chip u).pins device.gate);
  source = seat chip members u (node_of (cell_at chip u).pins device.source);
}

-- the devices of the members
abbrev pub seated_devices : Chip → List ℕ → List ℕ → List RawDevice
seated_devices chip members part = flat_map (λ u. map (seated chip members u) (cell_at chip u).devices) part

-- the members as one cell; the place of each of its nets is the number of its node
unfoldable pub cluster_cell : Chip → List ℕ → RawCell
cluster_cell chip members = record {
  pins = pins_of (input_count chip members) (output_count chip members);
  nets = replicate
      (2 + input_count chip members + output_count chip members + sum_by (inner_count chip) members) [];
  devices = seated_devices chip members members;
}
