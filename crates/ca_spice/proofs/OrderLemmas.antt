-- Nets in the order in which devices mention them first, by their places.
use Rattle.std.proofs.Common.{◌≡◌, ℕ, zero, suc, ◌+◌, ◌<◌, ◌≤◌, ◌⊎◌, inl, inr, Bool, true, false, true≢false, cond}
use Rattle.std.proofs.Common.{not, ◌||◌, List, [], ◌∷◌, ◌++◌, length, take, Some, refl, sym, ap, ◌∙◌, subst}
use Rattle.std.proofs.Common.{arith}
use Rattle.std.specs.Prelude.{slice_get}
use Rattle.std.specs.Str.{bytes_eq}
use Rattle.std.proofs.Math.Seq.{take-suc}
use Rattle.std.proofs.lemmas.List.{length-append}
use Rattle.std.proofs.lemmas.Bool.{or_right}
use Rattle.std.proofs.lemmas.Slice.Eq.{bytes_eq-Decides}
use Rattle.std.proofs.lemmas.Option.{none-some, same_Some, slice_get_within, get_or_from_slice_get}
use Rattle.ca_cell.specs.declared.strength.StrengthTable.{StrengthTable}
use Rattle.ca_cell.specs.declared.raw.RawDevice.{RawDevice}
use Rattle.ca_names.specs.Names.{has_name, with_name, place_with}
use Rattle.ca_spice.specs.declared.pin.Pin.{Pin}
use Rattle.ca_spice.specs.Mos.{Wiring, Sizes}
use Rattle.ca_spice.specs.OpenCell.{with_drain, with_gate, with_source, device_strength, device_of, with_device}
use Rattle.ca_spice.specs.Writing.{net_name}
use Rattle.ca_spice.proofs.CardLemmas.{HasNets, net_name-at, at_its_place, written_wiring, written_sizes}
use Rattle.ca_spice.proofs.DistinctLemmas.{AreDistinct}

-- the net at a place is one of those before, or the next
abbrev pub Mentions : ℕ → ℕ → ℕ → Type 0
Mentions before place after = ((place < before) × (after ≡ before)) ⊎ ((place ≡ before) × (after ≡ before + 1))

pub mentioned : (before place after : ℕ) → Mentions before place after → (before ≤ after) × (place < after)
mentioned before place after (inl (lower, same)) = (omega (arith, same), omega (arith, lower, same))
mentioned before place after (inr (at, next)) = (omega (arith, next), omega (arith, at, next))

-- the terminals of a device, in the order drain, gate, source
pub record MentionsAll (before : ℕ) (device : RawDevice) (after : ℕ) : Type 0 where
  pub first : ℕ
  pub second : ℕ
  pub drain : Mentions before device.drain first
  pub gate : Mentions first device.gate second
  pub source : Mentions second device.source after

-- the terminals of devices: each net is first mentioned after those before it
abbrev pub AreOrdered : ℕ → List RawDevice → ℕ → Type 0
AreOrdered before [] after = before ≡ after
AreOrdered before (device ∷ devices) after = (next : ℕ) × MentionsAll before device next × AreOrdered next devices after

pub ordered_push : (before : ℕ) (devices : List RawDevice) (device : RawDevice) (middle after : ℕ) → AreOrdered before devices middle
    → MentionsAll middle device after → AreOrdered before (devices ++ device ∷ []) after
ordered_push before [] device middle after order all = (after, subst (λ (n : ℕ). MentionsAll n device after) (sym order) all, refl)
ordered_push before (first ∷ devices) device middle after order all =
    (order.0, order.1, ordered_push order.0 devices device middle after order.2 all)

-- terminals are places within
pub record AreWithin (count : ℕ) (device : RawDevice) : Type 0 where
  pub drain : device.drain < count
  pub gate : device.gate < count
  pub source : device.source < count

pub all_mentioned : (before : ℕ) (device : RawDevice) (after : ℕ) → MentionsAll before device after → (before ≤ after) × AreWithin after device
all_mentioned before device after it =
    let drain = mentioned before device.drain it.first it.drain in
    let gate = mentioned it.first device.gate it.second it.gate in
    let source = mentioned it.second device.source after it.source in (
      omega (arith, drain.0, gate.0, source.0),
      record {
        drain = omega (arith, drain.1, gate.0, source.0);
        gate = omega (arith, gate.1, source.0);
        source = source.1;
      },
    )

pub ordered_most : (before : ℕ) (devices : List RawDevice) (after : ℕ) → AreOrdered before devices after → before ≤ after
ordered_most before [] after order = omega (arith, order)
ordered_most before (device ∷ devices) after order =
    let first = all_mentioned before device order.0 order.1 in
    let rest = ordered_most order.0 devices after order.2 in
    omega (arith, first.0, rest)

-- the place of a name among the names with it is one of them, or the next
pub name_mentioned : (name : List ℕ) (names : List (List ℕ)) → Mentions (length names) (place_with name names) (length (with_name name names))
name_mentioned name names = by (has_name name names) refl
  where
    placed : (names : List (List ℕ)) → ((has_name name names ≡ true) × (place_with name names < length names))
        ⊎ ((has_name name names ≡ false) × (place_with name names ≡ length names))
    placed [] = inr (refl, refl)
    placed (first ∷ names) = by_first (bytes_eq name first) (placed names)
      where
        by_first : (same : Bool) → ((has_name name names ≡ true) × (place_with name names < length names))
            ⊎ ((has_name name names ≡ false) × (place_with name names ≡ length names))
            → (((same || has_name name names) ≡ true) × (cond (not same) (1 + place_with name names) 0 < suc (length names)))
            ⊎ (((same || has_name name names) ≡ false) × (cond (not same) (1 + place_with name names) 0 ≡ suc (length names)))
        by_first true rest = inl (refl, omega arith)
        by_first false (inl (there, within)) = inl (there, omega (arith, within))
        by_first false (inr (lacks, last)) = inr (lacks, omega (arith, last))

    by : (found : Bool) → has_name name names ≡ found → Mentions (length names) (place_with name names) (length (cond found names (names ++ name ∷ [])))
    by true is = elim (placed names) [
      | inl there ↦ inl (there.1, refl)
      | inr lacks ↦ absurd (true≢false (sym is ∙ lacks.0))
    ]
    by false is = elim (placed names) [
      | inl there ↦ absurd (true≢false (sym there.0 ∙ is))
      | inr lacks ↦ inr (lacks.1, length-append names (name ∷ []))
    ]

-- so the device of a card mentions nets in order
pub device_mentions : (table : StrengthTable) (name : List ℕ) (wiring : Wiring) (sizes : Sizes) (nets : List (List ℕ))
    → MentionsAll (length nets) (device_of table name wiring sizes nets) (length (with_source wiring nets))
device_mentions table name wiring sizes nets = record {
  first = length (with_drain wiring nets);
  second = length (with_gate wiring nets);
  drain = name_mentioned wiring.drain nets;
  gate = name_mentioned wiring.gate (with_drain wiring nets);
  source = name_mentioned wiring.source (with_gate wiring nets);
}

-- a net among the first ones
taken_at : (nets : List (List ℕ)) (count place : ℕ) (net : List ℕ) → slice_get (take count nets) place ≡ Some net → slice_get nets place ≡ Some net
taken_at nets zero place net there = absurd (none-some net there)
taken_at [] (suc count) place net there = there
taken_at (first ∷ nets) (suc count) zero net there = there
taken_at (first ∷ nets) (suc count) (suc place) net there = taken_at nets count place net there

taken_before : (nets : List (List ℕ)) (count place : ℕ) (net : List ℕ) → slice_get (take count nets) place ≡ Some net → place < count
taken_before nets zero place net there = absurd (none-some net there)
taken_before [] (suc count) place net there = absurd (none-some net there)
taken_before (first ∷ nets) (suc count) zero net there = omega arith
taken_before (first ∷ nets) (suc count) (suc place) net there =
    let before = taken_before nets count place net there in omega (arith, before)

at_taken : (nets : List (List ℕ)) (count place : ℕ) (net : List ℕ) → slice_get nets place ≡ Some net → place < count → slice_get (take count nets) place ≡ Some net
at_taken nets zero place net there within = absurd (omega (arith, within))
at_taken [] (suc count) place net there within = there
at_taken (first ∷ nets) (suc count) zero net there within = there
at_taken (first ∷ nets) (suc count) (suc place) net there within = at_taken nets count place net there (omega (arith, within))

-- a name at a place is among the names, and a name among them is at a place
has_there : (name : List ℕ) (names : List (List ℕ)) (place : ℕ) → slice_get names place ≡ Some name → has_name name names ≡ true
has_there name [] place there = absurd (none-some name there)
has_there name (first ∷ names) zero there =
    ap (λ (same : Bool). same || has_name name names) ((bytes_eq-Decides name first).1 (sym (same_Some first name there)))
has_there name (first ∷ names) (suc place) there = or_right (bytes_eq name first) (has_name name names) (has_there name names place there)

there_has : (name : List ℕ) (names : List (List ℕ)) → has_name name names ≡ true → slice_get names (place_with name names) ≡ Some name
there_has name names has =
    subst (λ (all : List (List ℕ)). slice_get all (place_with name names) ≡ Some name)
    (ap (λ (found : Bool). cond found names (names ++ name ∷ [])) has) (at_its_place name names)

-- the first nets with the net that is mentioned next
pub mentions_next : (nets : List (List ℕ)) (before place next : ℕ) (net : List ℕ) → AreDistinct nets → slice_get nets place ≡ Some net
    → Mentions before place next → with_name net (take before nets) ≡ take next nets
mentions_next nets before place next net distinct there (inl (lower, same)) =
    ap (λ (found : Bool). cond found (take before nets) (take before nets ++ net ∷ []))
    (has_there net (take before nets) place (at_taken nets before place net there lower)) ∙ ap (λ (n : ℕ). take n nets) (sym same)
mentions_next nets before place next net distinct there (inr (at, more)) = by (has_name net (take before nets)) refl
  where
    within : before < length nets
    within = let in_nets = slice_get_within nets place net there in omega (arith, in_nets, at)

    longer : take (suc before) nets ≡ take before nets ++ net ∷ []
    longer =
        take-suc nets before net within
        ∙ ap (λ (last : List ℕ). take before nets ++ last ∷ []) (get_or_from_slice_get nets before net net (ap (slice_get nets) (sym at) ∙ there))

    by : (found : Bool) → has_name net (take before nets) ≡ found → cond found (take before nets) (take before nets ++ net ∷ []) ≡ take next nets
    by true has =
        let earlier = there_has net (take before nets) has in
        let lower = taken_before nets before (place_with net (take before nets)) net earlier in
        let same = distinct (place_with net (take before nets)) place net (taken_at nets before (place_with net (take before nets)) net earlier) there in
        absurd (omega (arith, lower, same, at))
    by false lacks =
        let count : suc before ≡ next = omega (arith, more) in
        sym longer ∙ ap (λ (n : ℕ). take n nets) count

-- its place among them
pub place_again : (nets : List (List ℕ)) (before place next : ℕ) (net : List ℕ) → AreDistinct nets → slice_get nets place ≡ Some net
    → Mentions before place next → place_with net (take before nets) ≡ place
place_again nets before place next net distinct there mentions =
    let at : slice_get (take next nets) (place_with net (take before nets)) ≡ Some net =
    subst (λ (all : List (List ℕ)). slice_get all (place_with net (take before nets)) ≡ Some net)
    (mentions_next nets before place next net distinct there mentions) (at_its_place net (take before nets)) in
    distinct (place_with net (take before nets)) place net (taken_at nets next (place_with net (take before nets)) net at) there

-- the card of a device adds the device to a subcircuit that has the nets before it
pub grown_again : (table : StrengthTable) (nets : List (List ℕ)) (device : RawDevice) (before next line : ℕ) (name : List ℕ) (pins : List Pin) (done : List RawDevice)
    → AreDistinct nets → HasNets nets device → device.strength ≡ device_strength table device.kind (written_sizes device) → MentionsAll before device next
    → with_device table device.name (written_wiring nets device) (written_sizes device)
    (record { line = line; name = name; pins = pins; nets = take before nets; devices = done })
    ≡ record { line = line; name = name; pins = pins; nets = take next nets; devices = done ++ device ∷ [] }
grown_again table nets device before next line name pins done distinct on strong all =
    λ j. record { line = line; name = name; pins = pins; nets = third j; devices = done ++ same j ∷ [] }
  where
    drain_at : slice_get nets device.drain ≡ Some (net_name nets device.drain)
    drain_at = on.drain.at ∙ ap Some (sym (net_name-at nets device.drain on.drain))

    gate_at : slice_get nets device.gate ≡ Some (net_name nets device.gate)
    gate_at = on.gate.at ∙ ap Some (sym (net_name-at nets device.gate on.gate))

    source_at : slice_get nets device.source ≡ Some (net_name nets device.source)
    source_at = on.source.at ∙ ap Some (sym (net_name-at nets device.source on.source))

    first : with_drain (written_wiring nets device) (take before nets) ≡ take all.first nets
    first = mentions_next nets before device.drain all.first (net_name nets device.drain) distinct drain_at all.drain

    second : with_gate (written_wiring nets device) (take before nets) ≡ take all.second nets
    second =
        ap (with_name (net_name nets device.gate)) first
        ∙ mentions_next nets all.first device.gate all.second (net_name nets device.gate) distinct gate_at all.gate

    third : with_source (written_wiring nets device) (take before nets) ≡ take next nets
    third =
        ap (with_name (net_name nets device.source)) second
        ∙ mentions_next nets all.second device.source next (net_name nets device.source) distinct source_at all.source

    drain : place_with (net_name nets device.drain) (take before nets) ≡ device.drain
    drain = place_again nets before device.drain all.first (net_name nets device.drain) distinct drain_at all.drain

    gate : place_with (net_name nets device.gate) (with_drain (written_wiring nets device) (take before nets)) ≡ device.gate
    gate =
        ap (place_with (net_name nets device.gate)) first
        ∙ place_again nets all.first device.gate all.second (net_name nets device.gate) distinct gate_at all.gate

    source : place_with (net_name nets device.source) (with_gate (written_wiring nets device) (take before nets)) ≡ device.source
    source =
        ap (place_with (net_name nets device.source)) second
        ∙ place_again nets all.second device.source next (net_name nets device.source) distinct source_at all.source

    same : device_of table device.name (written_wiring nets device) (written_sizes device) (take before nets) ≡ device
    same = λ j. record device { strength = sym strong j; drain = drain j; gate = gate j; source = source j }
