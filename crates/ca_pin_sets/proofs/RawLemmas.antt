-- What a subcircuit keeps, its resolved one keeps: nets come to places that there are.
use Rattle.std.proofs.Common.{◌≡◌, ℕ, zero, suc, ◌+◌, ◌<◌, ◌≤◌, ◌^◌, ◌⊎◌, inl, inr, List, Bool, true, false, [], ◌∷◌, map, length}
use Rattle.std.proofs.Common.{refl, sym, ◌∙◌, ap, subst, arith, cond, filter, not}
use Rattle.std.specs.Prelude.{Option, Some, None, slice_get, option_map}
use Rattle.std.specs.List.{range_with_len}
use Rattle.std.proofs.lemmas.Bool.{eqb-false}
use Rattle.std.proofs.lemmas.List.{length-map}
use Rattle.std.proofs.lemmas.List.FromFn.{length-map-range_with_len, length-range_with_len}
use Rattle.std.proofs.lemmas.List.Elements.{All-filter, All-map, All-weaker}
use Rattle.std.proofs.lemmas.Option.{slice_get-map, same_Some, none-some, slice_get_within}
use Rattle.ca_net.specs.declared.device.DeviceKind.{DeviceKind}
use Rattle.ca_net.specs.declared.device.DeviceKind.TheVariants.{N, P, D}
use Rattle.ca_cell.specs.declared.raw.RawPin.{RawPin}
use Rattle.ca_cell.specs.declared.raw.RawDevice.{RawDevice}
use Rattle.ca_cell.specs.declared.raw.RawCell.{RawCell}
use Rattle.ca_cell.specs.Devices.{IsDevice, IsDeviceBy}
use Rattle.ca_cell.specs.Rules.{IsRaw, PlacesWithin}
use Rattle.ca_pin_sets.specs.Homes.{is_input_net, home_of, homes_of}
use Rattle.ca_pin_sets.specs.Resolved.{is_kept, kept_nets, places_from, place_in, moved, is_dropped, resolved}
use Rattle.ca_pin_sets.proofs.ForestLemmas.{range_at}
use Rattle.ca_pin_sets.proofs.FoldLemmas.{kept_count}
use Rattle.ca_pin_sets.proofs.LinkLemmas.{group_there}
use Rattle.ca_pin_sets.proofs.ReachLemmas.{home_is, chain_inner}

-- each of these homes, the first of which is that of the net at a place, is the net itself, or a pin's of an
-- inner net
abbrev pub AreHomes : ℕ → ℕ → List ℕ → Type 0
AreHomes pins place homes = (k home : ℕ) → slice_get homes k ≡ Some home → (home ≡ place + k) ⊎ ((home < pins) × (pins ≤ place + k))

pub are_next : (pins place first : ℕ) (homes : List ℕ) → AreHomes pins place (first ∷ homes) → AreHomes pins (place + 1) homes
are_next pins place first homes are k home there = elim (are (suc k) home there) [
  | inl same ↦ inl (omega (arith, same))
  | inr pin ↦ let is = pin.0 in let inner = pin.1 in inr (is, omega (arith, inner))
]

-- all pins' nets are kept
pub pins_kept : (pins place : ℕ) (homes : List ℕ) → AreHomes pins place homes → pins ≤ place + length homes → pins ≤ place + kept_count place homes
pins_kept pins place [] are enough = enough
pins_kept pins place (home ∷ homes) are enough =
    by (is_kept place home) refl (pins_kept pins (place + 1) homes (are_next pins place home homes are) (omega (arith, enough))) (are 0 home refl)
  where
    by : (kept : Bool) → is_kept place home ≡ kept → pins ≤ place + 1 + kept_count (place + 1) homes
        → (home ≡ place + 0) ⊎ ((home < pins) × (pins ≤ place + 0)) → pins ≤ place + (cond kept 1 0 + kept_count (place + 1) homes)
    by true is rest here = omega (arith, rest)
    by false is rest (inl same) = absurd (eqb-false home place is (omega (arith, same)))
    by false is rest (inr pin) = let inner = pin.1 in omega (arith, inner)

pub length-kept_nets : (place : ℕ) (homes : List ℕ) (nets : List (List ℕ)) → length homes ≡ length nets
    → length (kept_nets place homes nets) ≡ kept_count place homes
length-kept_nets place [] nets same = refl
length-kept_nets place (home ∷ homes) [] same = absurd (omega (arith, same))
length-kept_nets place (home ∷ homes) (net ∷ nets) same =
    by (is_kept place home) (length-kept_nets (place + 1) homes nets (omega (arith, same)))
  where
    by : (kept : Bool) → length (kept_nets (place + 1) homes nets) ≡ kept_count (place + 1) homes
        → length (cond kept (net ∷ kept_nets (place + 1) homes nets) (kept_nets (place + 1) homes nets)) ≡ cond kept 1 0 + kept_count (place + 1) homes
    by true rest = omega (arith, rest)
    by false rest = omega (arith, rest)

pub kept_few : (place : ℕ) (homes : List ℕ) → kept_count place homes ≤ length homes
kept_few place [] = omega arith
kept_few place (home ∷ homes) = by (is_kept place home) (kept_few (place + 1) homes)
  where
    by : (kept : Bool) → kept_count (place + 1) homes ≤ length homes → cond kept 1 0 + kept_count (place + 1) homes ≤ suc (length homes)
    by true rest = omega (arith, rest)
    by false rest = omega (arith, rest)

pub length-places : (place before : ℕ) (homes : List ℕ) → length (places_from place before homes) ≡ length homes
length-places place before [] = refl
length-places place before (home ∷ homes) =
    by (is_kept place home) (length-places (place + 1) (before + 1) homes) (length-places (place + 1) before homes)
  where
    by : (kept : Bool) → length (places_from (place + 1) (before + 1) homes) ≡ length homes → length (places_from (place + 1) before homes) ≡ length homes
        → length (cond kept (before ∷ places_from (place + 1) (before + 1) homes) (home ∷ places_from (place + 1) before homes)) ≡ suc (length homes)
    by true more same = ap suc more
    by false more same = ap suc same

-- nets come to places of kept ones
pub place_within : (pins place before : ℕ) (homes : List ℕ) (k to : ℕ) → pins ≤ before + kept_count place homes → AreHomes pins place homes
    → slice_get (places_from place before homes) k ≡ Some to → to < before + kept_count place homes
place_within pins place before [] k to enough are there = absurd (none-some to there)
place_within pins place before (home ∷ homes) k to enough are there =
    by (λ (b k : ℕ) (enough : pins ≤ b + kept_count (place + 1) homes). place_within pins (place + 1) b homes k to enough (are_next pins place home homes are))
    (is_kept place home) refl k there enough
  where
    Rest : Type 0
    Rest =
        (b k : ℕ) → pins ≤ b + kept_count (place + 1) homes → slice_get (places_from (place + 1) b homes) k ≡ Some to → to < b + kept_count (place + 1) homes

    by : Rest → (kept : Bool) → is_kept place home ≡ kept → (k : ℕ)
        → slice_get (cond kept (before ∷ places_from (place + 1) (before + 1) homes) (home ∷ places_from (place + 1) before homes)) k ≡ Some to
        → pins ≤ before + (cond kept 1 0 + kept_count (place + 1) homes) → to < before + (cond kept 1 0 + kept_count (place + 1) homes)
    by rest true is zero there enough = let same = same_Some before to there in omega (arith, same)
    by rest true is (suc k) there enough =
        let within = rest (before + 1) k (omega (arith, enough)) there in
        omega (arith, within)
    by rest false is zero there enough = elim (are 0 home refl) [
      | inl same ↦ absurd (eqb-false home place is (omega (arith, same)))
      | inr pin ↦ let lower = pin.0 in let same = same_Some home to there in omega (arith, lower, same, enough)
    ]
    by rest false is (suc k) there enough =
        let within = rest before k (omega (arith, enough)) there in
        omega (arith, within)

-- the homes of a subcircuit's nets
pub input_before : (pins : List RawPin) (net : ℕ) → is_input_net pins net ≡ true → net < length pins
input_before [] net is = absurd cc
input_before (pin ∷ pins) zero is = omega arith
input_before (pin ∷ pins) (suc net) is = let before = input_before pins net is in omega (arith, before)

pub home_at : (raw : RawCell) (k home : ℕ) → slice_get (homes_of raw) k ≡ Some home → (k < length raw.nets) × (home ≡ home_of raw k)
home_at raw k home there = by (slice_get (range_with_len 0 (length raw.nets)) k) refl (sym (slice_get-map (home_of raw) (range_with_len 0 (length raw.nets)) k) ∙ there)
  where
    by : (found : Option ℕ) → slice_get (range_with_len 0 (length raw.nets)) k ≡ found → option_map (home_of raw) found ≡ Some home
        → (k < length raw.nets) × (home ≡ home_of raw k)
    by None at is = absurd (none-some home is)
    by (Some n) at is =
        let place : n ≡ k = let same = range_at 0 (length raw.nets) k n at in omega (arith, same) in
        let within = slice_get_within (range_with_len 0 (length raw.nets)) k n at in
        let count = length-range_with_len 0 (length raw.nets) in
        (omega (arith, within, count), sym (same_Some (home_of raw n) home is) ∙ ap (home_of raw) place)

pub length-homes_of : (raw : RawCell) → length (homes_of raw) ≡ length raw.nets
length-homes_of raw = length-map-range_with_len (home_of raw) 0 (length raw.nets)

pub are_homes : (raw : RawCell) → IsRaw raw → AreHomes (length raw.pins) 0 (homes_of raw)
are_homes raw is_raw k home there =
    let at = home_at raw k home there in
    elim (home_is raw k is_raw at.0) [
      | inl reached ↦
          let is : home ≡ home_of raw k = at.1 in
          let before : home_of raw k < length raw.pins = input_before raw.pins (home_of raw k) reached.reaches.input in
          let inner : length raw.pins ≤ k = chain_inner raw (home_of raw k) k reached.reaches.chain in
          inr (omega (arith, is, before), omega (arith, inner))
      | inr own ↦ let is : home ≡ home_of raw k = at.1 in let same : home_of raw k ≡ k = own.0 in inl (omega (arith, is, same))
    ]

-- the places of a subcircuit's nets
abbrev pub places_of : RawCell → List ℕ
places_of raw = places_from 0 0 (homes_of raw)

pub place_there : (raw : RawCell) (net : ℕ) → net < length raw.nets → slice_get (places_of raw) net ≡ Some (place_in (places_of raw) net)
place_there raw net within =
    group_there (places_of raw) net (subst (λ (n : ℕ). net < n) (sym (length-places 0 0 (homes_of raw) ∙ length-homes_of raw)) within)

pins_enough : (raw : RawCell) → IsRaw raw → length raw.pins ≤ kept_count 0 (homes_of raw)
pins_enough raw is_raw =
    let count : length (homes_of raw) ≡ length raw.nets = length-homes_of raw in
    let few : length raw.pins ≤ length raw.nets = is_raw.pins in
    let kept = pins_kept (length raw.pins) 0 (homes_of raw) (are_homes raw is_raw) (omega (arith, count, few)) in
    omega (arith, kept)

place_in_kept : (raw : RawCell) (net : ℕ) → IsRaw raw → net < length raw.nets → place_in (places_of raw) net < kept_count 0 (homes_of raw)
place_in_kept raw net is_raw within =
    let enough = pins_enough raw is_raw in
    let before = place_within (length raw.pins) 0 0 (homes_of raw) net (place_in (places_of raw) net) (omega (arith, enough)) (are_homes raw is_raw) (place_there raw net within) in
    omega (arith, before)

-- devices stay transistors and resistors
moved_by : (kind : DeviceKind) (places : List ℕ) (device : RawDevice) → IsDeviceBy kind device → IsDeviceBy kind (moved places device)
moved_by N places device is = is
moved_by P places device is = is
moved_by D places device is = (is.0, ap (place_in places) is.1)

count_few : {X : Type 0} (p : X → Bool) (xs : List X) → length (filter p xs) ≤ length xs
count_few p [] = omega arith
count_few p (x ∷ xs) = by (p x) (count_few p xs)
  where
    by : (passes : Bool) → length (filter p xs) ≤ length xs → length (cond passes (x ∷ filter p xs) (filter p xs)) ≤ suc (length xs)
    by true rest = omega (arith, rest)
    by false rest = omega (arith, rest)

pub resolved_is_raw : (raw : RawCell) → IsRaw raw → IsRaw (resolved raw)
resolved_is_raw raw is_raw = record {
  few_nets =
      let few = kept_few 0 (homes_of raw) in
      let homes : length (homes_of raw) ≡ length raw.nets = length-homes_of raw in
      let limit : length raw.nets < 2 ^ 32 = is_raw.few_nets in
      omega (arith, few, homes, limit, count);
  few_devices =
      let fewer = count_few (λ device. not (is_dropped raw.pins device)) (map (moved (places_of raw)) raw.devices) in
      let same : length (map (moved (places_of raw)) raw.devices) ≡ length raw.devices = length-map raw.devices (moved (places_of raw)) in
      let limit : length raw.devices < 2 ^ 32 = is_raw.few_devices in
      omega (arith, fewer, same, limit);
  pins = let enough = pins_enough raw is_raw in omega (arith, enough, count);
  places =
      All-filter (λ device. not (is_dropped raw.pins device)) (PlacesWithin (length (resolved raw).nets)) (map (moved (places_of raw)) raw.devices)
      (All-map (PlacesWithin (length (resolved raw).nets)) (moved (places_of raw)) raw.devices
      (All-weaker (PlacesWithin (length raw.nets)) (λ device. PlacesWithin (length (resolved raw).nets) (moved (places_of raw) device))
      (λ device places. record {
        drain = to device.drain places.drain;
        gate = to device.gate places.gate;
        source = to device.source places.source;
      })
      raw.devices is_raw.places));
  devices =
      All-filter (λ device. not (is_dropped raw.pins device)) IsDevice (map (moved (places_of raw)) raw.devices)
      (All-map IsDevice (moved (places_of raw)) raw.devices
      (All-weaker IsDevice (λ device. IsDevice (moved (places_of raw) device)) (λ device is. moved_by device.kind (places_of raw) device is) raw.devices
      is_raw.devices));
}
  where
    count : length (resolved raw).nets ≡ kept_count 0 (homes_of raw)
    count = length-kept_nets 0 (homes_of raw) raw.nets (length-homes_of raw)

    to : (net : ℕ) → net < length raw.nets → place_in (places_of raw) net < length (resolved raw).nets
    to net within = subst (λ (n : ℕ). place_in (places_of raw) net < n) (sym count) (place_in_kept raw net is_raw within)
