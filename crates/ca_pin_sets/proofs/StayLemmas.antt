-- A resolved subcircuit is resolved as itself: no resistor of it joins an input pin to an inner net.
use Rattle.std.proofs.Common.{◌≡◌, ℕ, zero, suc, ◌+◌, ◌<◌, ◌≤◌, ◌==◌, ◌⊎◌, inl, inr, List, Bool, true, false, [], ◌∷◌, map, length}
use Rattle.std.proofs.Common.{refl, sym, ◌∙◌, ap, subst, arith, cond, filter, not, get_or}
use Rattle.std.specs.Prelude.{Option, Some, None, slice_get, unwrap_or}
use Rattle.std.specs.List.{All, range_with_len}
use Rattle.std.proofs.lemmas.Bool.{eqb-true, eqb-false, eq-eqb, cases_lt, cond-true}
use Rattle.std.proofs.lemmas.List.FromFn.{get_or-map-range_with_len, length-map-range_with_len}
use Rattle.std.proofs.lemmas.List.Elements.{All-filter, All-map}
use Rattle.std.proofs.lemmas.Option.{same_Some, none-some, slice_get-get_or}
use Rattle.ca_cell.specs.declared.raw.RawPin.{RawPin}
use Rattle.ca_cell.specs.declared.raw.RawDevice.{RawDevice}
use Rattle.ca_cell.specs.declared.raw.RawCell.{RawCell}
use Rattle.ca_cell.specs.Devices.{has_gate}
use Rattle.ca_cell.specs.Rules.{IsRaw}
use Rattle.ca_pin_sets.specs.Homes.{is_input_net, home_of, homes_of}
use Rattle.ca_pin_sets.specs.Reached.{IsBetween, AreJoined, Leads, Begins, Onward, Reaches}
use Rattle.ca_pin_sets.specs.Resolved.{is_kept, kept_nets, places_from, place_in, moved, is_dropped, kept_devices, resolved}
use Rattle.ca_pin_sets.proofs.ForestLemmas.{range_at}
use Rattle.ca_pin_sets.proofs.LinkLemmas.{of_all, joined_within}
use Rattle.ca_pin_sets.proofs.ReachLemmas.{home_is}
use Rattle.ca_pin_sets.proofs.RawLemmas.{AreHomes, are_next, are_homes, input_before, places_of, place_there, resolved_is_raw}

-- the place to which a net with a home came: a pin keeps its place, an inner net that is kept comes after the
-- pins, and another to its pin
abbrev IsPlaceOf : ℕ → ℕ → ℕ → ℕ → Type 0
IsPlaceOf pins net home to =
    ((home ≡ net) × (net < pins) × (to ≡ net)) ⊎ (((home ≡ net) × (pins ≤ net) × (pins ≤ to)) ⊎ ((pins ≤ net) × (home < pins) × (to ≡ home)))

-- this many are kept before a place: all, where it is a pin's
abbrev AreBefore : ℕ → ℕ → ℕ → Type 0
AreBefore pins place before = ((place < pins) × (before ≡ place)) ⊎ ((pins ≤ place) × (pins ≤ before))

before_kept : (pins place before : ℕ) → AreBefore pins place before → AreBefore pins (place + 1) (before + 1)
before_kept pins place before (inl (lower, same)) = elim (cases_lt (place + 1) pins) [
  | inl still ↦ inl (still, omega (arith, same))
  | inr past ↦ inr (past, omega (arith, past, same))
]
before_kept pins place before (inr (past, enough)) = inr (omega (arith, past), omega (arith, enough))

place_is : (pins place before : ℕ) (homes : List ℕ) (k home to : ℕ) → AreBefore pins place before → AreHomes pins place homes
    → slice_get homes k ≡ Some home → slice_get (places_from place before homes) k ≡ Some to → IsPlaceOf pins (place + k) home to
place_is pins place before [] k home to starts are there comes = absurd (none-some home there)
place_is pins place before (first ∷ homes) k home to starts are there comes =
    by (λ (b k : ℕ) (starts : AreBefore pins (place + 1) b). place_is pins (place + 1) b homes k home to starts (are_next pins place first homes are))
    (is_kept place first) refl k there comes
  where
    Rest : Type 0
    Rest =
        (b k : ℕ) → AreBefore pins (place + 1) b → slice_get homes k ≡ Some home → slice_get (places_from (place + 1) b homes) k ≡ Some to
        → IsPlaceOf pins (place + 1 + k) home to

    onward : (k : ℕ) → IsPlaceOf pins (place + 1 + k) home to → IsPlaceOf pins (place + suc k) home to
    onward k is = let same : place + 1 + k ≡ place + suc k = omega arith in subst (λ (n : ℕ). IsPlaceOf pins n home to) same is

    by : Rest → (kept : Bool) → is_kept place first ≡ kept → (k : ℕ) → slice_get (first ∷ homes) k ≡ Some home
        → slice_get (cond kept (before ∷ places_from (place + 1) (before + 1) homes) (first ∷ places_from (place + 1) before homes)) k ≡ Some to
        → IsPlaceOf pins (place + k) home to
    by rest true is zero there comes =
        let own : first ≡ place = eqb-true first place is in
        let same : first ≡ home = same_Some first home there in
        let at : before ≡ to = same_Some before to comes in
        elim starts [
          | inl pin ↦ let lower = pin.0 in let count = pin.1 in inl (omega (arith, own, same), omega (arith, lower), omega (arith, at, count))
          | inr inner ↦ let past = inner.0 in let enough = inner.1 in inr (inl (omega (arith, own, same), omega (arith, past), omega (arith, at, enough)))
        ]
    by rest true is (suc k) there comes = onward k (rest (before + 1) k (before_kept pins place before starts) there comes)
    by rest false is zero there comes = elim (are 0 first refl) [
      | inl own ↦ absurd (eqb-false first place is (omega (arith, own)))
      | inr pin ↦
          let lower = pin.0 in
          let past = pin.1 in
          let same : first ≡ home = same_Some first home there in
          let at : first ≡ to = same_Some first to comes in
          inr (inr (past, omega (arith, lower, same), omega (arith, same, at)))
    ]
    by rest false is (suc k) there comes = elim (are 0 first refl) [
      | inl own ↦ absurd (eqb-false first place is (omega (arith, own)))
      | inr pin ↦ elim starts [
        | inl before_pins ↦ let past = pin.1 in let lower = before_pins.0 in absurd (omega (arith, past, lower))
        | inr inner ↦
            let past = inner.0 in
            onward k (rest before k (inr (omega (arith, past), inner.1)) there comes)
      ]
    ]

home_there : (raw : RawCell) (net : ℕ) → net < length raw.nets → slice_get (homes_of raw) net ≡ Some (home_of raw net)
home_there raw net within =
    let count : length (homes_of raw) ≡ length raw.nets = length-map-range_with_len (home_of raw) 0 (length raw.nets) in
    slice_get-get_or (homes_of raw) net net (subst (λ (n : ℕ). net < n) (sym count) within)
    ∙ ap (λ (n : ℕ). Some n) (get_or-map-range_with_len (home_of raw) 0 (length raw.nets) net net net within (omega arith))

came_to : (raw : RawCell) (net : ℕ) → IsRaw raw → net < length raw.nets → IsPlaceOf (length raw.pins) net (home_of raw net) (place_in (places_of raw) net)
came_to raw net is_raw within =
    let same : 0 + net ≡ net = omega arith in
    subst (λ (n : ℕ). IsPlaceOf (length raw.pins) n (home_of raw net) (place_in (places_of raw) net)) same
    (place_is (length raw.pins) 0 0 (homes_of raw) net (home_of raw net) (place_in (places_of raw) net)
    (elim (cases_lt 0 (length raw.pins)) [ inl some ↦ inl (some, refl) | inr none ↦ inr (none, none) ])
    (are_homes raw is_raw) (home_there raw net within) (place_there raw net within))

-- what a pin reaches is not its own home
reached_moves : (raw : RawCell) (net pin : ℕ) → IsRaw raw → net < length raw.nets → length raw.pins ≤ net → home_of raw net ≡ net → Reaches raw net pin → ⊥
reached_moves raw net pin is_raw within inner own reaches = elim (home_is raw net is_raw within) [
  | inl first ↦
      let before : home_of raw net < length raw.pins = input_before raw.pins (home_of raw net) first.reaches.input in
      omega (arith, before, inner, own)
  | inr none ↦ none.1 pin reaches
]

-- so no resistor joins what came to an input pin with what came after the pins
apart : (raw : RawCell) (one other : ℕ) → IsRaw raw → AreJoined raw one other → is_input_net raw.pins (place_in (places_of raw) one) ≡ true
    → length raw.pins ≤ place_in (places_of raw) other → ⊥
apart raw one other is_raw are input after =
    elim (came_to raw other is_raw within.1) [
      | inl pin ↦ let lower = pin.1 in let at = pin.2 in omega (arith, lower, at, after)
      | inr more ↦ elim more [
        | inl kept ↦ second kept.0 kept.1
        | inr set ↦ let lower = set.1 in let at = set.2 in omega (arith, lower, at, after)
      ]
    ]
  where
    within : (one < length raw.nets) × (other < length raw.nets)
    within = joined_within raw one other is_raw are

    before : place_in (places_of raw) one < length raw.pins
    before = input_before raw.pins (place_in (places_of raw) one) input

    second : home_of raw other ≡ other → length raw.pins ≤ other → ⊥
    second own inner = elim (came_to raw one is_raw within.0) [
      | inl pin ↦
          reached_moves raw other one is_raw within.1 inner own
          (record { input = subst (λ (n : ℕ). is_input_net raw.pins n ≡ true) pin.2 input; chain = Begins are inner })
      | inr more ↦ elim more [
        | inl kept ↦ let past = kept.2 in omega (arith, past, before)
        | inr set ↦ elim (home_is raw one is_raw within.0) [
          | inl first ↦
              reached_moves raw other (home_of raw one) is_raw within.1 inner own
              (record { input = first.reaches.input; chain = Onward one first.reaches.chain are inner })
          | inr none ↦ let past = set.0 in let lower = set.1 in let is = none.0 in omega (arith, past, lower, is)
        ]
      ]
    ]

-- a resistor joins no input pin to an inner net
abbrev IsApart : List RawPin → RawDevice → Type 0
IsApart pins device =
    has_gate device.kind ≡ false → (pin net : ℕ) → IsBetween device pin net → is_input_net pins pin ≡ true → length pins ≤ net → ⊥

moved_apart : (raw : RawCell) → IsRaw raw → All (λ device. IsApart raw.pins (moved (places_of raw) device)) raw.devices
moved_apart raw is_raw k device within gateless pin net between input inner = elim between [
  | inl ends ↦
      apart raw (get_or raw.devices k device).drain (get_or raw.devices k device).source is_raw
      (record { place = k; resistor = get_or raw.devices k device; there = there; gateless = gateless; between = inl (refl, refl) })
      (subst (λ (n : ℕ). is_input_net raw.pins n ≡ true) (sym ends.0) input) (subst (λ (n : ℕ). length raw.pins ≤ n) (sym ends.1) inner)
  | inr ends ↦
      apart raw (get_or raw.devices k device).source (get_or raw.devices k device).drain is_raw
      (record { place = k; resistor = get_or raw.devices k device; there = there; gateless = gateless; between = inr (refl, refl) })
      (subst (λ (n : ℕ). is_input_net raw.pins n ≡ true) (sym ends.1) input) (subst (λ (n : ℕ). length raw.pins ≤ n) (sym ends.0) inner)
]
  where
    there : slice_get raw.devices k ≡ Some (get_or raw.devices k device)
    there = slice_get-get_or raw.devices k device within

all_apart : (raw : RawCell) → IsRaw raw → All (IsApart raw.pins) (resolved raw).devices
all_apart raw is_raw =
    All-filter (λ device. not (is_dropped raw.pins device)) (IsApart raw.pins) (map (moved (places_of raw)) raw.devices)
    (All-map (IsApart raw.pins) (moved (places_of raw)) raw.devices (moved_apart raw is_raw))

-- so no input pin reaches a net of a resolved subcircuit
none_reached : (raw : RawCell) (pin net : ℕ) → IsRaw raw → is_input_net raw.pins pin ≡ true → Leads (resolved raw) pin net → ⊥
none_reached raw pin net is_raw input (Begins are inner) =
    of_all (IsApart raw.pins) (resolved raw).devices are.place are.resistor (all_apart raw is_raw) are.there are.gateless pin net are.between input inner
none_reached raw pin net is_raw input (Onward before chain are inner) = none_reached raw pin before is_raw input chain

home_stays : (raw : RawCell) (net : ℕ) → IsRaw raw → net < length (resolved raw).nets → home_of (resolved raw) net ≡ net
home_stays raw net is_raw within = elim (home_is (resolved raw) net (resolved_is_raw raw is_raw) within) [
  | inl first ↦ absurd (none_reached raw (home_of (resolved raw) net) net is_raw first.reaches.input first.reaches.chain)
  | inr own ↦ own.0
]

-- where each net is its own home, nothing changes
map_same : {X : Type 0} (f : X → X) (xs : List X) → ((x : X) → f x ≡ x) → map f xs ≡ xs
map_same f [] same = refl
map_same f (x ∷ xs) same = λ j. same x j ∷ map_same f xs same j

range_same : (f : ℕ → ℕ) (from count : ℕ) → ((k : ℕ) → k < from + count → f k ≡ k) → map f (range_with_len from count) ≡ range_with_len from count
range_same f from zero same = refl
range_same f from (suc count) same =
    λ j. same from (omega arith) j ∷ range_same f (from + 1) count (λ k within. same k (omega (arith, within))) j

all_kept : (place : ℕ) (nets : List (List ℕ)) → kept_nets place (range_with_len place (length nets)) nets ≡ nets
all_kept place [] = refl
all_kept place (net ∷ nets) =
    cond-true (place == place) (net ∷ kept_nets (place + 1) (range_with_len (place + 1) (length nets)) nets)
    (kept_nets (place + 1) (range_with_len (place + 1) (length nets)) nets) (eq-eqb place place refl)
    ∙ ap (λ (rest : List (List ℕ)). net ∷ rest) (all_kept (place + 1) nets)

all_placed : (place count : ℕ) → places_from place place (range_with_len place count) ≡ range_with_len place count
all_placed place zero = refl
all_placed place (suc count) =
    cond-true (place == place) (place ∷ places_from (place + 1) (place + 1) (range_with_len (place + 1) count))
    (place ∷ places_from (place + 1) place (range_with_len (place + 1) count)) (eq-eqb place place refl)
    ∙ ap (λ (rest : List ℕ). place ∷ rest) (all_placed (place + 1) count)

place_same : (count net : ℕ) → place_in (range_with_len 0 count) net ≡ net
place_same count net = by (slice_get (range_with_len 0 count) net) refl
  where
    by : (found : Option ℕ) → slice_get (range_with_len 0 count) net ≡ found → unwrap_or found net ≡ net
    by None at = refl
    by (Some n) at = let same = range_at 0 count net n at in omega (arith, same)

moved_same : (count : ℕ) (device : RawDevice) → moved (range_with_len 0 count) device ≡ device
moved_same count device =
    λ j. record device { drain = place_same count device.drain j; gate = place_same count device.gate j; source = place_same count device.source j }

filter_twice : {X : Type 0} (p : X → Bool) (xs : List X) → filter p (filter p xs) ≡ filter p xs
filter_twice p [] = refl
filter_twice {X = X} p (x ∷ xs) = by (filter_twice p xs) (p x) refl
  where
    by : filter p (filter p xs) ≡ filter p xs → (passes : Bool) → p x ≡ passes
        → filter p (cond passes (x ∷ filter p xs) (filter p xs)) ≡ cond passes (x ∷ filter p xs) (filter p xs)
    by rest true is = cond-true (p x) (x ∷ filter p (filter p xs)) (filter p (filter p xs)) is ∙ ap (λ (ys : List X). x ∷ ys) rest
    by rest false is = rest

pub stays : (raw : RawCell) → IsRaw raw → resolved (resolved raw) ≡ resolved raw
stays raw is_raw = λ j. record { pins = raw.pins; nets = nets_stay j; devices = devices_stay j }
  where
    homes_stay : homes_of (resolved raw) ≡ range_with_len 0 (length (resolved raw).nets)
    homes_stay = range_same (home_of (resolved raw)) 0 (length (resolved raw).nets) (λ k within. home_stays raw k is_raw (omega (arith, within)))

    nets_stay : kept_nets 0 (homes_of (resolved raw)) (resolved raw).nets ≡ (resolved raw).nets
    nets_stay = ap (λ (homes : List ℕ). kept_nets 0 homes (resolved raw).nets) homes_stay ∙ all_kept 0 (resolved raw).nets

    passes : RawDevice → Bool
    passes device = not (is_dropped raw.pins device)

    devices_stay : kept_devices raw.pins (places_from 0 0 (homes_of (resolved raw))) (resolved raw).devices ≡ (resolved raw).devices
    devices_stay =
        ap (λ (homes : List ℕ). kept_devices raw.pins (places_from 0 0 homes) (resolved raw).devices) homes_stay
        ∙ ap (λ (places : List ℕ). kept_devices raw.pins places (resolved raw).devices) (all_placed 0 (length (resolved raw).nets))
        ∙ ap (filter passes) (map_same (moved (range_with_len 0 (length (resolved raw).nets))) (resolved raw).devices (moved_same (length (resolved raw).nets)))
        ∙ filter_twice passes (map (moved (places_of raw)) raw.devices)
