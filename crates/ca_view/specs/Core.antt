-- The core of a linked chip, which the flat network is built on: its nets off the scan path, numbered anew,
-- and an instance for each of the chip's. A scan instance has a cell without devices, whose one pin drives
-- the net of the inverted output, if it has one.
use Rattle.std.specs.Prelude.{ℕ, zero, suc, ◌+◌, Bool, true, false, List, [], ◌∷◌, ◌++◌, map, option_to_list}
use Rattle.std.specs.Prelude.{Option, Some, None, slice_get, if◌then◌else◌}
use Rattle.std.specs.List.{list_any, position_or_len}
use Rattle.std.specs.Prelude.{eqb, nat_lt}
use Rattle.ca_net.specs.declared.trit.Trit.{Trit}
use Rattle.ca_net.specs.declared.trit.Trit.TheVariants.{Zero, One}
use Rattle.ca_net.specs.declared.scale.TheConstants.{OUTPUT_NET}
use Rattle.ca_net.specs.declared.node.NodeKind.{NodeKind}
use Rattle.ca_net.specs.declared.node.NodeKind.TheVariants as node
use Rattle.ca_cell.specs.declared.raw.Role.{Role}
use Rattle.ca_cell.specs.declared.raw.Role.TheVariants.{Output, Power, Ground}
use Rattle.ca_cell.specs.declared.raw.RawPin.{RawPin}
use Rattle.ca_cell.specs.declared.raw.RawCell.{RawCell}
use Rattle.ca_flat.specs.Chip.{Instance, Constant}
use Rattle.ca_flat.specs.Chip as flat
use Rattle.ca_linked.specs.declared.parts.Body.{Body}
use Rattle.ca_linked.specs.declared.parts.Part.{Part}
use Rattle.ca_linked.specs.declared.parts.Body.TheVariants.{Gate, Scan}
use Rattle.ca_linked.specs.Linked.{cell_of, LinkedChip, net_count, has, is_scan_path, inputs_of, outputs_of}

-- how many of the nets before this one are off the scan path: its number among those
unfoldable pub core_net : LinkedChip → ℕ → ℕ
core_net chip zero = 0
core_net chip (suc net) = core_net chip net + (if is_scan_path chip net then 0 else 1)

-- the nets that storage nodes stand for: those that library instances drive, and those of inverted outputs
abbrev pub stored_nets : Body → List ℕ
stored_nets (Gate cell inputs outputs) = outputs
stored_nets (Scan nets) = option_to_list nets.qn

-- a net that an instance drives is an output net; any other is an input
abbrev pub kind_of : LinkedChip → ℕ → NodeKind
kind_of chip net =
    if list_any (λ part. has (stored_nets part.body) net) chip.parts then node.Storage OUTPUT_NET
    else node.Input

-- the kinds of the first nets, without those on the scan path
unfoldable pub core_kinds : LinkedChip → ℕ → List NodeKind
core_kinds chip zero = []
core_kinds chip (suc net) =
    core_kinds chip net ++ (if is_scan_path chip net then [] else kind_of chip net ∷ [])

-- a pin without a name
abbrev pub bare_pin : Role → RawPin
bare_pin role = record { name = []; role = role }

-- a cell without devices: power, ground, and an output pin where there is a net for it
abbrev pub empty_cell : Option ℕ → RawCell
empty_cell None = record { pins = bare_pin Power ∷ bare_pin Ground ∷ []; nets = [] ∷ [] ∷ []; devices = [] }
empty_cell (Some net) = record {
  pins = bare_pin Power ∷ bare_pin Ground ∷ bare_pin Output ∷ [];
  nets = [] ∷ [] ∷ [] ∷ [];
  devices = [];
}

-- the core's instance for one of the chip
abbrev pub core_instance : LinkedChip → Body → Instance
core_instance chip (Gate cell inputs outputs) =
    record { cell = cell_of chip.cells cell; pins = map (core_net chip) (inputs ++ outputs) }
core_instance chip (Scan nets) =
    record { cell = empty_cell nets.qn; pins = map (core_net chip) (option_to_list nets.qn) }

-- the value of a constant
abbrev pub trit_of : Bool → Trit
trit_of true = One
trit_of false = Zero

-- a constant that drives a net off the scan path
abbrev pub constant_on : LinkedChip → Bool → Option ℕ → List Constant
constant_on chip value None = []
constant_on chip value (Some net) =
    if is_scan_path chip net then [] else record { net = core_net chip net; value = trit_of value } ∷ []

-- the constants, that on the earlier net first
abbrev pub in_net_order : List Constant → List Constant → List Constant
in_net_order (low ∷ []) (high ∷ []) = if nat_lt low.net high.net then low ∷ high ∷ [] else high ∷ low ∷ []
in_net_order lows highs = lows ++ highs

-- the constants in net order
abbrev pub core_constants : LinkedChip → List Constant
core_constants chip = in_net_order (constant_on chip false chip.zero) (constant_on chip true chip.one)

-- the core of a chip
abbrev pub core_of : LinkedChip → flat.Chip
core_of chip = record {
  nets = core_kinds chip (net_count chip);
  instances = map (λ part. core_instance chip part.body) chip.parts;
  inputs = map (core_net chip) (inputs_of chip);
  constants = core_constants chip;
  outputs = map (core_net chip) (outputs_of chip);
}

-- a library instance is ranked by its place in the order, after all scan instances
abbrev pub body_rank : ℕ → Body → ℕ
body_rank place (Gate cell inputs outputs) = suc place
body_rank place (Scan nets) = 0

-- the rank of a library instance is after those of scan instances, in order
abbrev pub rank_in : LinkedChip → ℕ → Option Part → ℕ
rank_in chip u None = 0
rank_in chip u (Some part) = body_rank (position_or_len (eqb u) chip.order) part.body

-- the rank of an instance of the chip
abbrev pub rank_of : LinkedChip → ℕ → ℕ
rank_of chip u = rank_in chip u (slice_get chip.parts u)
