-- The nodes and devices of a flat network make a network.
use Rattle.std.proofs.Common.{◌≡◌, ℕ, List, refl, subst}
use Rattle.std.specs.Prelude.{Option, Some, None, slice_get, IsSomeAnd}
use Rattle.std.specs.List.{All}
use Rattle.std.proofs.lemmas.List.Elements.{All-same, All-weaker, All-get_or}
use Rattle.std.proofs.lemmas.Option.{slice_get_within, get_or_from_slice_get}
use Rattle.ca_base.specs.First.{IsFirst}
use Rattle.ca_net.specs.declared.device.DeviceKind.{DeviceKind}
use Rattle.ca_net.specs.declared.device.DeviceKind.TheVariants as kind
use Rattle.ca_net.specs.declared.device.Device.{Device}
use Rattle.ca_net.specs.Circuit.{IsWellFormed, NamesWithin, NamesPast, GateIsDrain, GateIsDrainOf}
use Rattle.ca_flat_text.specs.FlatText.{HasLine, HasLineBy}
use Rattle.ca_flat.specs.declared.chip_defect.ChipDefect.{ChipDefect}
use Rattle.ca_flat.specs.Chip.{IsChipDefect}
use Rattle.ca_flat.specs.Flat.{flat}
use Rattle.ca_flat.proofs.Simulated.{flat_well_formed}
use Rattle.ca_linked.specs.Linked.{LinkedChip, IsWired}
use Rattle.ca_view.specs.Core.{core_of, rank_of}
use Rattle.ca_view.proofs.CoreIsChip.{core_is}
use Rattle.ca_flatten.specs.Few.{IsFew}
use Rattle.ca_flatten.proofs.LineLemmas.{flat_lines}

-- no device of a network is the first that names a node past the list
pub none_past : (count k : ℕ) (devices : List Device) → All (NamesWithin count) devices → IsFirst (NamesPast count) devices k → ⊥
none_past count k devices all first = by (slice_get devices k) refl first.here
  where
    by : (o : Option Device) → slice_get devices k ≡ o → IsSomeAnd o (NamesPast count) → ⊥
    by None at past = elim past [ ]
    by (Some device) at past =
        past (subst (NamesWithin count) (get_or_from_slice_get devices k device device at)
        (All-get_or (NamesWithin count) devices k device (slice_get_within devices k device at) all))

gate_is_drain : (k : DeviceKind) (d : Device) → HasLineBy k d → GateIsDrainOf k d
gate_is_drain kind.N d line = tt
gate_is_drain kind.P d line = tt
gate_is_drain kind.D d line = line.1

pub line_gate : (d : Device) → HasLine d → GateIsDrain d
line_gate d line = gate_is_drain d.kind d line

pub formed : (chip : LinkedChip) (given : Option ChipDefect) → IsWired chip → IsChipDefect (core_of chip) given → IsFew (core_of chip) given → IsWellFormed (flat (core_of chip) given)
formed chip given wired listed few = flat_well_formed (core_of chip) (rank_of chip) given (core_is chip wired) listed few.nodes few.devices

module _ (chip : LinkedChip) (given : Option ChipDefect) (devices : List Device) (same : devices ≡ (flat (core_of chip) given).devices) (wired : IsWired chip) where
  pub gates_are_drains : All GateIsDrain devices
  gates_are_drains = All-same GateIsDrain devices (flat (core_of chip) given).devices same
      (All-weaker HasLine GateIsDrain line_gate (flat (core_of chip) given).devices (flat_lines chip wired given))
