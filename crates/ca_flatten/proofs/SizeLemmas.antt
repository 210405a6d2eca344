-- The sizes of flat networks, and that the flat nodes of instances are nodes of it.
use Rattle.std.proofs.Common.{◌≡◌, ℕ, zero, suc, map, length-append, ◌+◌, ◌^◌, ◌<◌, ◌≤◌, List, length, inl}
use Rattle.std.proofs.Common.{inr, refl, sym, ◌∙◌, ap, arith}
use Rattle.std.specs.Prelude.{Option, Some, None, slice_get, option_to_list}
use Rattle.std.specs.List.{Contains}
use Rattle.std.proofs.lemmas.List.{length-map}
use Rattle.std.proofs.lemmas.List.Elements.{All-contains}
use Rattle.std.proofs.lemmas.Option.{slice_get_within, get_or_from_slice_get}
use Rattle.ca_net.specs.declared.device.Device.{Device}
use Rattle.ca_net.specs.Circuit.{NamesWithin}
use Rattle.ca_linked.specs.declared.parts.Part.{Part}
use Rattle.ca_linked.specs.Linked.{LinkedChip, IsWired}
use Rattle.ca_flat.specs.declared.chip_defect.ChipDefect.{ChipDefect}
use Rattle.ca_flat.specs.Chip as flat
use Rattle.ca_flat.specs.Chip.{inputs_at, outputs_at, circuit_at, count_of, IsChipDefect}
use Rattle.ca_flat.specs.Flat.{inner_before, inner_count, place, circuit_in, old_devices, defect_at}
use Rattle.ca_flat.specs.Flat.{devices_of, devices_before, bridge_of, new_nodes, defect_of}
use Rattle.ca_parts.specs.Part.{moved}
use Rattle.ca_cell.specs.declared.defect.Defect.{Defect}
use Rattle.ca_cell.specs.declared.defect.Defect.TheVariants.{OpenDrain, OpenSource, OpenGate, OpenPin}
use Rattle.ca_cell.specs.declared.defect.Defect.TheVariants.{Short}
use Rattle.ca_cell.specs.Defect.{new_device}
use Rattle.ca_cell.proofs.CircuitWithLemmas.{length-changed_from}
use Rattle.ca_flat.proofs.Places.{inner_apart, inner_step}
use Rattle.ca_flat.proofs.Shapes.{old_device, new_cases}
use Rattle.ca_flat.proofs.Spots.{flat_length, body}
use Rattle.ca_flat.proofs.Split.{place_within}
use Rattle.ca_view.specs.Core.{core_of, core_instance, rank_of}
use Rattle.ca_view.proofs.CoreIsChip.{core_is}
use Rattle.ca_flatten.specs.Few.{IsFew}
use Rattle.ca_flatten.specs.declared.sizes.Sizes.{Sizes}
use Rattle.ca_flatten.specs.code.Kept.{device_total, AreSizes}

pub core_count : (chip : LinkedChip) → count_of (core_of chip) ≡ length chip.parts
core_count chip = length-map chip.parts (λ (p : Part). core_instance chip p.body)

-- the inner nodes of the instances before one and its own are few
pub inner_fits : (chip : LinkedChip) (given : Option ChipDefect) → IsFew (core_of chip) given → (u : ℕ) → u < length chip.parts
    → 2 + length (core_of chip).nets + (inner_before (core_of chip) u + inner_count (core_of chip) u) < 2 ^ 32
inner_fits chip given few u lt =
    let count = core_count chip in
    let apart = inner_apart (core_of chip) u (count_of (core_of chip)) (omega arith) in
    let total = flat_length (core_of chip) given in
    let nodes = few.nodes in
    omega arith

module _ (chip : LinkedChip) (is : IsWired chip) (given : Option ChipDefect) (fits : IsChipDefect (core_of chip) given) (few : IsFew (core_of chip) given) where
  -- the flat node of a node of an instance has a number of 32 bits
  pub place_fits : (u n : ℕ) → u < length chip.parts → n < length (circuit_in (core_of chip) given u).nodes → place (core_of chip) u n < 2 ^ 32
  place_fits u n lt within =
      let count = core_count chip in
      let in_flat = place_within (core_of chip) (rank_of chip) given (core_is chip is) fits u n (omega arith) within in
      let nodes = few.nodes in
      omega arith

  -- a device of an instance, with its defect, names nodes of the instance
  pub device_named : (u d : ℕ) (device : Device) → u < length chip.parts
      → slice_get (old_devices (circuit_at (core_of chip) u).devices (length (circuit_at (core_of chip) u).nodes) (defect_at given u)) d ≡ Some device
      → NamesWithin (length (circuit_in (core_of chip) given u).nodes) device
  device_named u d device lt at =
      let core = core_of chip in
      let olds = old_devices (circuit_at core u).devices (length (circuit_at core u).nodes) (defect_at given u) in
      let count = core_count chip in
      let in_old : Contains olds device = (d, slice_get_within olds d device at, get_or_from_slice_get olds d device device at) in
      All-contains (NamesWithin (length (circuit_in core given u).nodes)) (circuit_in core given u).devices device
      (body core (rank_of chip) given (core_is chip is) fits u (omega arith)).formed.named
      (old_device (circuit_at core u) (defect_at given u) device in_old)

more_total : (core : flat.Chip) (u devices : ℕ) → devices ≡ device_total core u → devices + length (circuit_at core u).devices ≡ device_total core (u + 1)
unfolding device_total
more_total core u devices is = ap (λ n. n + length (circuit_at core u).devices) is ∙ ap (device_total core) (let e : suc u ≡ u + 1 = omega arith in e)

-- the inner nodes and the devices of the instances before u
pub record AreCounted (core : flat.Chip) (u inner devices : ℕ) : Type 0 where
  pub is_inner : inner ≡ inner_before core u
  pub is_devices : devices ≡ device_total core u

pub none_counted : (core : flat.Chip) → AreCounted core 0 0 0
unfolding inner_before device_total
none_counted core = record { is_inner = refl; is_devices = refl }

pub counted_more : (core : flat.Chip) (u inner devices more_inner more_devices : ℕ) → AreCounted core u inner devices
    → more_inner ≡ inner_count core u → more_devices ≡ length (circuit_at core u).devices → AreCounted core (u + 1) (inner + more_inner) (devices + more_devices)
counted_more core u inner devices more_inner more_devices is is_inner is_devices = record {
  is_inner = (let step = inner_step core u in let e = is.is_inner in omega arith);
  is_devices = ap (λ n. devices + n) is_devices ∙ more_total core u devices is.is_devices;
}

old_length : (devices : List Device) (new : ℕ) (o : Option Defect) → length (old_devices devices new o) ≡ length devices
old_length devices new None = refl
old_length devices new (Some defect) = length-changed_from defect new 0 devices

total_length : (core : flat.Chip) (given : Option ChipDefect) (u : ℕ) → length (devices_before core given u) ≡ device_total core u
unfolding devices_before device_total
total_length core given zero = refl
total_length core given (suc u) =
    let before = total_length core given u in
    let both = length-append (devices_before core given u) (devices_of core given u) in
    let moved_count = length-map (old_devices (circuit_at core u).devices (length (circuit_at core u).nodes) (defect_at given u)) (moved (place core u)) in
    let olds = old_length (circuit_at core u).devices (length (circuit_at core u).nodes) (defect_at given u) in
    omega arith

bridge_length : (core : flat.Chip) (given : Option ChipDefect) → length (bridge_of core given) ≤ 1
bridge_length core None = omega arith
bridge_length core (Some given) = by given.defect
  where
    by : (defect : Defect) → length (map (moved (place core given.instance)) (option_to_list (new_device defect))) ≤ 1
    by (OpenDrain opened) = omega arith
    by (OpenSource opened) = omega arith
    by (OpenGate opened) = omega arith
    by (OpenPin pin) = omega arith
    by (Short low high) = omega arith

-- what is counted of all instances shows that the flat network isn't too large
few_counted : (chip : LinkedChip) (given : Option ChipDefect) (u inner devices : ℕ) → AreCounted (core_of chip) u inner devices → u ≡ length chip.parts
    → 3 + length (core_of chip).nets + inner < 2 ^ 32 → devices + 1 < 2 ^ 32 → IsFew (core_of chip) given
few_counted chip given u inner devices counted all few_nodes few_devices =
    let core = core_of chip in
    let count : u ≡ count_of core = all ∙ sym (core_count chip) in
    record {
      nodes =
          let total = flat_length core given in
          let is : inner ≡ inner_before core (count_of core) = counted.is_inner ∙ ap (inner_before core) count in
          elim (new_cases (defect_of given)) [ inl none ↦ omega arith | inr one ↦ (let e : length (new_nodes (defect_of given)) ≡ 1 = one in omega arith) ];
      devices =
          let both = length-append (devices_before core given (count_of core)) (bridge_of core given) in
          let is : devices ≡ device_total core (count_of core) = counted.is_devices ∙ ap (device_total core) count in
          let total = total_length core given (count_of core) in
          let bridge = bridge_length core given in
          omega arith;
    }

-- what is counted of all instances are the sizes of the flat network
pub all_sizes : (chip : LinkedChip) (u inner devices : ℕ) → AreCounted (core_of chip) u inner devices → u ≡ length chip.parts
    → 3 + length (core_of chip).nets + inner < 2 ^ 32 → devices + 1 < 2 ^ 32
    → AreSizes (core_of chip) (record { inner = inner; devices = devices })
all_sizes chip u inner devices counted all few_nodes few_devices =
    let core = core_of chip in
    let count : u ≡ count_of core = all ∙ sym (core_count chip) in
    record {
      inner = counted.is_inner ∙ ap (inner_before core) count;
      devices = counted.is_devices ∙ ap (device_total core) count;
      few = λ given. few_counted chip given u inner devices counted all few_nodes few_devices;
    }

-- sizes are small, with the nodes that are no inner ones
pub sizes_fit : (core : flat.Chip) (sizes : Sizes) → AreSizes core sizes
    → (2 + length core.nets + sizes.inner < 2 ^ 32) × (sizes.devices < 2 ^ 32)
sizes_fit core sizes are =
    let few = are.few None in
    let inner = are.inner in
    let devices = are.devices in
    let all = flat_length core None in
    let total = total_length core None (count_of core) in
    let both = length-append (devices_before core None (count_of core)) (bridge_of core None) in
    let few_nodes = few.nodes in
    let few_devices = few.devices in
    (omega arith, omega arith)
