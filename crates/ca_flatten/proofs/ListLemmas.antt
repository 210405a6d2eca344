-- The lists of nodes and devices, with the next.
use Rattle.std.proofs.Common.{◌≡◌, ℕ, zero, suc, ◌+◌, ◌≤◌, List, [], ◌∷◌, ◌++◌, length, map, take, refl, sym}
use Rattle.std.proofs.Common.{◌∙◌, ap, subst, arith, append_assoc}
use Rattle.std.specs.Prelude.{Option, Some, None, slice_get}
use Rattle.std.proofs.lemmas.List.{append-nil, map-append}
use Rattle.ca_net.specs.declared.node.NodeKind.{NodeKind}
use Rattle.ca_net.specs.declared.device.Device.{Device}
use Rattle.ca_parts.specs.Part.{moved}
use Rattle.ca_cell.specs.declared.raw.RawCell.{RawCell}
use Rattle.ca_cell.specs.Raw.{circuit_of}
use Rattle.ca_cell.specs.declared.defect.Defect.{Defect}
use Rattle.ca_cell.proofs.CircuitWithLemmas.{length-changed_from}
use Rattle.ca_flat.specs.declared.chip_defect.ChipDefect.{ChipDefect}
use Rattle.ca_flat.specs.Chip as flat
use Rattle.ca_flat.specs.Chip.{cell_at, circuit_at}
use Rattle.ca_flat.specs.Flat.{place, old_devices, defect_at, devices_of, devices_before}
use Rattle.ca_linked.specs.Linked.{LinkedChip}
use Rattle.ca_linked.proofs.EndLemmas.{take_more}
use Rattle.ca_view.specs.Core.{core_kinds}
use Rattle.ca_flatten.specs.code.Kept.{core_kind, first_devices}

pub no_kinds : (chip : LinkedChip) (nodes : List NodeKind) → nodes ≡ nodes ++ core_kinds chip 0
unfolding core_kinds
no_kinds chip nodes = sym (append-nil nodes)

pub more_kinds : (chip : LinkedChip) (net : ℕ) (start nodes next : List NodeKind) → nodes ≡ start ++ core_kinds chip net → next ≡ nodes ++ core_kind chip net
    → next ≡ start ++ core_kinds chip (net + 1)
unfolding core_kinds
more_kinds chip net start nodes next is more =
    more ∙ ap (λ list. list ++ core_kind chip net) is ∙ append_assoc start (core_kinds chip net) (core_kind chip net)
    ∙ ap (λ count. start ++ core_kinds chip count) (let e : suc net ≡ net + 1 = omega arith in e)

module _ (core : flat.Chip) (given : Option ChipDefect) (u : ℕ) where
  abbrev olds : List Device
  olds = old_devices (circuit_at core u).devices (length (circuit_at core u).nodes) (defect_at given u)

  -- a device of the cell of the instance, with its defect, is one of the instance
  pub device_at : (raw : RawCell) (here : Option Defect) (d : ℕ) (device : Device) → raw ≡ cell_at core u → here ≡ defect_at given u
      → slice_get (old_devices (circuit_of raw).devices (length (circuit_of raw).nodes) here) d ≡ Some device → slice_get olds d ≡ Some device
  device_at raw here d device is_cell is_here at =
      subst (λ (o : Option Defect). slice_get (old_devices (circuit_at core u).devices (length (circuit_at core u).nodes) o) d ≡ Some device) is_here
      (subst (λ (r : RawCell). slice_get (old_devices (circuit_of r).devices (length (circuit_of r).nodes) here) d ≡ Some device) is_cell at)

  pub more_devices : (d : ℕ) (device : Device) (start devices next : List Device) → slice_get olds d ≡ Some device
      → devices ≡ start ++ first_devices core given u d → next ≡ devices ++ moved (place core u) device ∷ []
      → next ≡ start ++ first_devices core given u (d + 1)
  more_devices d device start devices next at is more =
      more ∙ ap (λ list. list ++ moved (place core u) device ∷ []) is
      ∙ append_assoc start (first_devices core given u d) (moved (place core u) device ∷ [])
      ∙ ap (λ list. start ++ list) (sym (ap (map (moved (place core u))) (take_more olds d device at)
      ∙ map-append (moved (place core u)) (take d olds) (device ∷ [])))

  old_count : (devices : List Device) (new : ℕ) (o : Option Defect) → length (old_devices devices new o) ≡ length devices
  old_count devices new None = refl
  old_count devices new (Some defect) = length-changed_from defect new 0 devices

  pub whole_devices : (d : ℕ) (start devices : List Device) → length (circuit_at core u).devices ≤ d
      → devices ≡ start ++ first_devices core given u d → devices ≡ start ++ devices_of core given u
  whole_devices d start devices past is =
      is ∙ ap (λ list. start ++ map (moved (place core u)) list)
      (take-all olds d (let e = old_count (circuit_at core u).devices (length (circuit_at core u).nodes) (defect_at given u) in omega arith))
    where
      take-all : (xs : List Device) (k : ℕ) → length xs ≤ k → take k xs ≡ xs
      take-all [] zero le = refl
      take-all [] (suc k) le = refl
      take-all (x ∷ xs) zero le = absurd (omega (arith, le))
      take-all (x ∷ xs) (suc k) le = ap (λ list. x ∷ list) (take-all xs k (omega (arith, le)))

pub no_devices : (core : flat.Chip) (given : Option ChipDefect) → [] ≡ devices_before core given 0
unfolding devices_before
no_devices core given = refl

pub next_devices : (core : flat.Chip) (given : Option ChipDefect) (u : ℕ) (devices next : List Device) → devices ≡ devices_before core given u
    → next ≡ devices ++ devices_of core given u → next ≡ devices_before core given (u + 1)
unfolding devices_before
next_devices core given u devices next is more =
    more ∙ ap (λ list. list ++ devices_of core given u) is ∙ ap (devices_before core given) (let e : suc u ≡ u + 1 = omega arith in e)
