-- What the code keeps while it makes a flat network. Only the proofs of the code cite this.
use Rattle.std.specs.Prelude.{ℕ, zero, suc, ◌+◌, ◌^◌, ◌≡◌, ◌<◌, ◌↔◌, Bool, IsTrue, false, if◌then◌else◌}
use Rattle.std.specs.Prelude.{List, [], ◌∷◌, length, slice_index_or, Option, IsSome, map, take}
use Rattle.ca_net.specs.declared.device.Device.{Device}
use Rattle.ca_parts.specs.Part.{moved}
use Rattle.ca_flat.specs.declared.chip_defect.ChipDefect.{ChipDefect}
use Rattle.ca_flat.specs.Chip.{Chip, circuit_at, count_of}
use Rattle.ca_flat.specs.Flat.{inner_before, place, old_devices, defect_at}
use Rattle.ca_net.specs.declared.node.NodeKind.{NodeKind}
use Rattle.ca_view.specs.Core.{kind_of}
use Rattle.ca_flatten.specs.declared.sizes.Sizes.{Sizes}
use Rattle.ca_flatten.specs.declared.spots.Spot.{Spot}
use Rattle.ca_flatten.specs.Few.{IsFew}
use Rattle.ca_linked.specs.declared.parts.Body.{Body}
use Rattle.ca_linked.specs.declared.parts.Body.TheVariants.{Gate, Scan}
use Rattle.ca_linked.specs.Linked.{IsLibrary}
use Rattle.ca_linked.specs.Linked as linked

-- the mark of an instance
abbrev pub mark_at : List Bool → ℕ → Bool
mark_at marks u = slice_index_or marks u false

-- exactly the library instances are marked, and there are few instances
pub record AreGateMarks (chip : linked.LinkedChip) (marks : List Bool) : Type 0 where
  pub room : length marks ≡ length chip.parts
  pub each : (u : ℕ) → IsTrue (mark_at marks u) ↔ IsLibrary chip u
  pub few : length chip.parts < 2 ^ 32

-- the flat nodes from which on the inner nodes of the instance are, and the new node of a defect
pub record IsSpot (chip : Chip) (spot : Spot) : Type 0 where
  pub inner : spot.inner ≡ 2 + length chip.nets + inner_before chip spot.instance.0
  pub new : spot.new ≡ 2 + length chip.nets + inner_before chip (count_of chip)

-- the instance is a scan instance with an inverted output
abbrev pub IsInverting : Body → Type 0
IsInverting (Gate cell inputs outputs) = ⊥
IsInverting (Scan nets) = IsSome nets.qn

-- the kind of a net, if it is off the scan path
abbrev pub core_kind : linked.LinkedChip → ℕ → List NodeKind
core_kind chip net = if linked.is_scan_path chip net then [] else kind_of chip net ∷ []

-- the first devices of the instance u in the flat network, but for a bridge
abbrev pub first_devices : Chip → Option ChipDefect → ℕ → ℕ → List Device
first_devices chip given u count = map (moved (place chip u)) (take count
    (old_devices (circuit_at chip u).devices (length (circuit_at chip u).nodes) (defect_at given u)))

-- how many devices the instances before u have
unfoldable pub device_total : Chip → ℕ → ℕ
device_total chip zero = 0
device_total chip (suc u) = device_total chip u + length (circuit_at chip u).devices

-- how many inner nodes and devices the instances have, where no flat network is too large
pub record AreSizes (chip : Chip) (sizes : Sizes) : Type 0 where
  pub inner : sizes.inner ≡ inner_before chip (count_of chip)
  pub devices : sizes.devices ≡ device_total chip (count_of chip)
  pub few : (given : Option ChipDefect) → IsFew chip given
