-- A subcircuit with the nets of input pins' sets written as the pins: it can be written if the subcircuit can, and
-- it is the same one where no device has its drain or its source on an input pin.
use Rattle.std.proofs.Common.{◌≡◌, ℕ, zero, suc, ◌+◌, ◌<◌, ◌≤◌, ◌==◌, ◌⊎◌, inl, inr, Bool, true, false, true≢false}
use Rattle.std.proofs.Common.{cond, not, List, [], ◌∷◌, ◌++◌, length, map, filter, get_or, refl, sym, ap, ◌∙◌, subst, arith}
use Rattle.std.specs.Prelude.{Option, Some, None, IsSome, is_some, slice_get, unwrap_or, option_and_then, replicate}
use Rattle.std.specs.List.{All, AllByRecursion, range_with_len}
use Rattle.std.proofs.lemmas.Bool.{and_parts, leb-true, eqb-true, eqb-false, eq-eqb, cond-true, not-true}
use Rattle.std.proofs.lemmas.Bool.{not_from_false, false_from_ne_true, and_right}
use Rattle.std.proofs.lemmas.List.{length-map}
use Rattle.std.proofs.lemmas.List.FromFn.{length-map-range_with_len}
use Rattle.std.proofs.lemmas.Option.{none-some, same_Some, slice_get-get_or, slice_get_within}
use Rattle.std.proofs.lemmas.Option.{get_or_from_slice_get}
use Rattle.ca_cell.specs.declared.strength.StrengthTable.{StrengthTable}
use Rattle.ca_cell.specs.declared.raw.Role.{Role}
use Rattle.ca_cell.specs.declared.raw.Role.TheVariants as role
use Rattle.ca_cell.specs.declared.raw.RawPin.{RawPin}
use Rattle.ca_cell.specs.declared.raw.RawDevice.{RawDevice}
use Rattle.ca_cell.specs.declared.raw.RawCell.{RawCell}
use Rattle.ca_cell.specs.declared.rule.CellRule.TheVariants.{InputDrivesChannel}
use Rattle.ca_cell.specs.Devices.{has_gate}
use Rattle.ca_cell.specs.Rules.{input_role, input_at, input_node, either, channel_pin, KeepsRules}
use Rattle.ca_cell.specs.Raw.{is_input, node_of}
use Rattle.ca_cell.proofs.NodeLemmas.{none_or_first, breaks_at}
use Rattle.ca_pin_sets.specs.Groups.{is_resistor, is_inner, group_of, groups_of}
use Rattle.ca_pin_sets.specs.Homes.{is_input_at, is_input_net, owners_of, home_in, home_of, homes_of}
use Rattle.ca_pin_sets.specs.Resolved.{is_kept, kept_nets, places_from, place_in, moved, is_dropped, kept_devices}
use Rattle.ca_pin_sets.specs.Resolved.{resolved}
use Rattle.ca_pin_sets.proofs.OwnerLemmas.{AllOwn, after_own, replicate_none}
use Rattle.ca_spice.specs.Writing.{pin_names}
use Rattle.ca_spice.proofs.CardLemmas.{IsCard, Extends}
use Rattle.ca_spice.proofs.DistinctLemmas.{names_of, IsAmong, NoNames, Keeps, Leaves}
use Rattle.ca_spice.proofs.DistinctLemmas.{distinct_among, named_among}
use Rattle.ca_spice.proofs.OrderLemmas.{Mentions, MentionsAll, AreOrdered, AreWithin, all_mentioned, ordered_most}
use Rattle.ca_spice.proofs.WritableLemmas.{IsWritable}

-- the home of a net is the net itself, or it has what all owners of groups have
self_or_owner : (P : ℕ → Type 0) (pins : ℕ) (groups : List ℕ) (owners : List (Option ℕ)) (net : ℕ) → AllOwn (λ group pin. P pin) owners
    → (home_in pins groups owners net ≡ net) ⊎ (P (home_in pins groups owners net) × (pins ≤ net))
self_or_owner P pins groups owners net own = by (is_inner pins net) refl
  where
    by_owner : (found : Option (Option ℕ)) → slice_get owners (group_of groups net) ≡ found → pins ≤ net
        → (unwrap_or (option_and_then (λ owner. owner) found) net ≡ net) ⊎ (P (unwrap_or (option_and_then (λ owner. owner) found) net) × (pins ≤ net))
    by_owner None at past = inl refl
    by_owner (Some None) at past = inl refl
    by_owner (Some (Some pin)) at past = inr (own (group_of groups net) pin at, past)

    by : (inner : Bool) → is_inner pins net ≡ inner
        → (cond inner (unwrap_or (option_and_then (λ owner. owner) (slice_get owners (group_of groups net))) net) net ≡ net)
        ⊎ (P (cond inner (unwrap_or (option_and_then (λ owner. owner) (slice_get owners (group_of groups net))) net) net) × (pins ≤ net))
    by true is = by_owner (slice_get owners (group_of groups net)) refl (leb-true pins net is)
    by false is = inl refl

-- the net of an input pin is one of the pins'
input_before : (pins : List RawPin) (net : ℕ) → is_input_net pins net ≡ true → net < length pins
input_before [] net is = absurd cc
input_before (pin ∷ pins) zero is = omega arith
input_before (pin ∷ pins) (suc net) is = let before = input_before pins net is in omega (arith, before)

-- each of these homes, the first of which is that of the net at a place, is the net itself, or a pin's of an
-- inner net
abbrev AreHomes : ℕ → ℕ → List ℕ → Type 0
AreHomes pins place [] = Unit {0}
AreHomes pins place (home ∷ homes) = ((home ≡ place) ⊎ ((home < pins) × (pins ≤ place))) × AreHomes pins (place + 1) homes

homes_are : (raw : RawCell) (place count : ℕ) → AreHomes (length raw.pins) place (map (home_of raw) (range_with_len place count))
homes_are raw place zero = tt
homes_are raw place (suc count) = (
  elim (self_or_owner (λ pin. is_input_net raw.pins pin ≡ true) (length raw.pins) (groups_of raw) (owners_of raw) place owned) [
    | inl own ↦ inl own
    | inr pin ↦ inr (input_before raw.pins (home_of raw place) pin.0, pin.1)
  ],
  homes_are raw (place + 1) count,
)
  where
    owned : AllOwn (λ group pin. is_input_net raw.pins pin ≡ true) (owners_of raw)
    owned =
        after_own (λ group pin. is_input_net raw.pins pin ≡ true) raw.pins (groups_of raw) raw.devices (replicate (length raw.nets) None)
        (λ k device there. record { drain = λ gateless claims. claims.0; source = λ gateless claims. claims.0 })
        (λ group pin there. absurd (replicate_none (length raw.nets) group pin there))

-- how many of the first nets are kept
abbrev kept_until : ℕ → List ℕ → ℕ → ℕ
kept_until place homes zero = 0
kept_until place [] (suc k) = 0
kept_until place (home ∷ homes) (suc k) = cond (is_kept place home) 1 0 + kept_until (place + 1) homes k

until_grows : (place : ℕ) (homes : List ℕ) (j k : ℕ) → j ≤ k → kept_until place homes j ≤ kept_until place homes k
until_grows place homes zero k le = omega arith
until_grows place homes (suc j) zero le = absurd (omega (arith, le))
until_grows place [] (suc j) (suc k) le = omega arith
until_grows place (home ∷ homes) (suc j) (suc k) le =
    let rest = until_grows (place + 1) homes j k (omega (arith, le)) in omega (arith, rest)

-- all pins' nets are kept
until_pins : (pins place : ℕ) (homes : List ℕ) (k : ℕ) → AreHomes pins place homes → place + k ≤ pins → k ≤ length homes → kept_until place homes k ≡ k
until_pins pins place homes zero are lower enough = refl
until_pins pins place [] (suc k) are lower enough = absurd (omega (arith, enough))
until_pins pins place (home ∷ homes) (suc k) are lower enough = elim are.0 [
  | inl same ↦
      let rest = until_pins pins (place + 1) homes k are.1 (omega (arith, lower)) (omega (arith, enough)) in
      ap (λ (kept : Bool). cond kept 1 0 + kept_until (place + 1) homes k) (eq-eqb home place same) ∙ omega (arith, rest)
  | inr pin ↦ let past = pin.1 in absurd (omega (arith, past, lower))
]

-- where a net comes: after the nets that are kept before it, if it is kept, and else to a pin
abbrev Comes : ℕ → ℕ → ℕ → ℕ → Type 0
Comes pins to before after = ((to ≡ before) × (after ≡ before + 1)) ⊎ ((to < pins) × (after ≡ before))

comes_same : (pins to before after early late : ℕ) → before ≡ early → after ≡ late → Comes pins to before after → Comes pins to early late
comes_same pins to before after early late is then (inl (at, more)) = inl (omega (arith, at, is), omega (arith, more, is, then))
comes_same pins to before after early late is then (inr (lower, same)) = inr (lower, omega (arith, same, is, then))

net_comes : (pins place before : ℕ) (homes : List ℕ) (net to : ℕ) → AreHomes pins place homes → slice_get (places_from place before homes) net ≡ Some to
    → Comes pins to (before + kept_until place homes net) (before + kept_until place homes (suc net))
net_comes pins place before [] net to are there = absurd (none-some to there)
net_comes pins place before (home ∷ homes) net to are there =
    by (is_kept place home) refl net there (λ start k comes. net_comes pins (place + 1) start homes k to are.1 comes)
  where
    by : (kept : Bool) → is_kept place home ≡ kept → (net : ℕ)
        → slice_get (cond kept (before ∷ places_from (place + 1) (before + 1) homes) (home ∷ places_from (place + 1) before homes)) net ≡ Some to
        → ((start k : ℕ) → slice_get (places_from (place + 1) start homes) k ≡ Some to
        → Comes pins to (start + kept_until (place + 1) homes k) (start + kept_until (place + 1) homes (suc k)))
        → Comes pins to (before + kept_until place (home ∷ homes) net) (before + kept_until place (home ∷ homes) (suc net))
    by true is zero there rest =
        let same = same_Some before to there in
        let one : kept_until place (home ∷ homes) 1 ≡ 1 = ap (λ (kept : Bool). cond kept 1 0 + 0) is in
        inl (omega (arith, same), omega (arith, one))
    by true is (suc net) there rest =
        let one : ◌≡◌ {A = ℕ} (cond (is_kept place home) 1 0) 1 = ap (λ (kept : Bool). cond kept 1 0) is in
        comes_same pins to (before + 1 + kept_until (place + 1) homes net) (before + 1 + kept_until (place + 1) homes (suc net))
        (before + kept_until place (home ∷ homes) (suc net)) (before + kept_until place (home ∷ homes) (suc (suc net)))
        (omega (arith, one)) (omega (arith, one)) (rest (before + 1) net there)
    by false is zero there rest = elim are.0 [
      | inl same ↦ absurd (eqb-false home place is same)
      | inr pin ↦
          let at = same_Some home to there in
          let lower = pin.0 in
          let none : kept_until place (home ∷ homes) 1 ≡ 0 = ap (λ (kept : Bool). cond kept 1 0 + 0) is in
          inr (omega (arith, at, lower), omega (arith, none))
    ]
    by false is (suc net) there rest =
        let none : ◌≡◌ {A = ℕ} (cond (is_kept place home) 1 0) 0 = ap (λ (kept : Bool). cond kept 1 0) is in
        comes_same pins to (before + kept_until (place + 1) homes net) (before + kept_until (place + 1) homes (suc net))
        (before + kept_until place (home ∷ homes) (suc net)) (before + kept_until place (home ∷ homes) (suc (suc net)))
        (omega (arith, none)) (omega (arith, none)) (rest before net there)

length-places : (place before : ℕ) (homes : List ℕ) → length (places_from place before homes) ≡ length homes
length-places place before [] = refl
length-places place before (home ∷ homes) =
    by (is_kept place home) (length-places (place + 1) (before + 1) homes) (length-places (place + 1) before homes)
  where
    by : (kept : Bool) → length (places_from (place + 1) (before + 1) homes) ≡ length homes → length (places_from (place + 1) before homes) ≡ length homes
        → length (cond kept (before ∷ places_from (place + 1) (before + 1) homes) (home ∷ places_from (place + 1) before homes)) ≡ suc (length homes)
    by true more same = ap suc more
    by false more same = ap suc same

place_there : (places : List ℕ) (net : ℕ) → net < length places → slice_get places net ≡ Some (place_in places net)
place_there places net within = by (slice_get places net) refl
  where
    by : (found : Option ℕ) → slice_get places net ≡ found → found ≡ Some (unwrap_or found net)
    by None at = absurd (none-some (get_or places net net) (sym at ∙ slice_get-get_or places net net within))
    by (Some to) at = refl

-- a net that is mentioned in order is so where it comes
net_mentioned : (pins : ℕ) (homes : List ℕ) (before net after : ℕ) → AreHomes pins 0 homes → net < length homes → pins ≤ kept_until 0 homes before
    → Mentions before net after → Mentions (kept_until 0 homes before) (place_in (places_from 0 0 homes) net) (kept_until 0 homes after)
net_mentioned pins homes before net after are within enough mentions =
    by mentions
    (net_comes pins 0 0 homes net (place_in (places_from 0 0 homes) net) are (place_there (places_from 0 0 homes) net (subst (λ (n : ℕ). net < n) (sym (length-places 0 0 homes)) within)))
  where
    by : Mentions before net after → Comes pins (place_in (places_from 0 0 homes) net) (0 + kept_until 0 homes net) (0 + kept_until 0 homes (suc net))
        → Mentions (kept_until 0 homes before) (place_in (places_from 0 0 homes) net) (kept_until 0 homes after)
    by (inl (lower, same)) (inl (at, more)) =
        let grows = until_grows 0 homes (suc net) before (omega (arith, lower)) in
        inl (omega (arith, at, more, grows), ap (kept_until 0 homes) same)
    by (inl (lower, same)) (inr (low, stays)) = inl (omega (arith, low, enough), ap (kept_until 0 homes) same)
    by (inr (here, next)) (inl (at, more)) =
        let now : kept_until 0 homes net ≡ kept_until 0 homes before = ap (kept_until 0 homes) here in
        let one : after ≡ suc net = omega (arith, here, next) in
        let then : kept_until 0 homes after ≡ kept_until 0 homes (suc net) = ap (kept_until 0 homes) one in
        inr (omega (arith, at, now), omega (arith, more, now, then))
    by (inr (here, next)) (inr (low, stays)) =
        let now : kept_until 0 homes net ≡ kept_until 0 homes before = ap (kept_until 0 homes) here in
        let one : after ≡ suc net = omega (arith, here, next) in
        let then : kept_until 0 homes after ≡ kept_until 0 homes (suc net) = ap (kept_until 0 homes) one in
        inl (omega (arith, low, enough), omega (arith, stays, now, then))

device_mentioned : (pins : ℕ) (homes : List ℕ) (before : ℕ) (device : RawDevice) (after : ℕ) → AreHomes pins 0 homes → after ≤ length homes
    → pins ≤ kept_until 0 homes before → MentionsAll before device after
    → MentionsAll (kept_until 0 homes before) (moved (places_from 0 0 homes) device) (kept_until 0 homes after)
device_mentioned pins homes before device after are few enough all =
    let within : AreWithin after device = (all_mentioned before device after all).1 in
    let drain = within.drain in
    let gate = within.gate in
    let source = within.source in
    let to_first = net_mentioned pins homes before device.drain all.first are (omega (arith, drain, few)) enough all.drain in
    let first_enough : pins ≤ kept_until 0 homes all.first = omega (arith, enough, least _ _ _ to_first) in
    let to_second = net_mentioned pins homes all.first device.gate all.second are (omega (arith, gate, few)) first_enough all.gate in
    let second_enough : pins ≤ kept_until 0 homes all.second = omega (arith, first_enough, least _ _ _ to_second) in
    record {
      first = kept_until 0 homes all.first;
      second = kept_until 0 homes all.second;
      drain = to_first;
      gate = to_second;
      source = net_mentioned pins homes all.second device.source after are (omega (arith, source, few)) second_enough all.source;
    }
  where
    least : (before place after : ℕ) → Mentions before place after → before ≤ after
    least before place after (inl (lower, same)) = omega (arith, same)
    least before place after (inr (at, next)) = omega (arith, next)

-- a resistor has its drain as its gate
gate_is : (table : StrengthTable) (device : RawDevice) → IsCard table device → is_resistor device ≡ true → device.gate ≡ device.drain
gate_is table device card is = elim card.kept [
  | inl transistor ↦ elim transistor.kind [
    | inl p ↦ absurd (true≢false (ap has_gate (sym p) ∙ not-true (has_gate device.kind) is))
    | inr n ↦ absurd (true≢false (ap has_gate (sym n) ∙ not-true (has_gate device.kind) is))
  ]
  | inr resistor ↦ resistor.gate
]

-- a device that is left out mentions input pins alone
stays_before : (before place after : ℕ) → place < before → Mentions before place after → after ≡ before
stays_before before place after lower (inl (below, same)) = same
stays_before before place after lower (inr (at, next)) = absurd (omega (arith, lower, at))

dropped_mentions : (pins : List RawPin) (before : ℕ) (device : RawDevice) (after : ℕ) → (is_resistor device ≡ true → device.gate ≡ device.drain)
    → is_dropped pins device ≡ true → length pins ≤ before → MentionsAll before device after → after ≡ before
dropped_mentions pins before device after gate dropped enough all =
    let parts = and_parts (is_resistor device) _ dropped in
    let ends = and_parts (device.drain == device.source) (is_input_net pins device.drain) parts.1 in
    let lower : device.drain < before = let input = input_before pins device.drain ends.1 in omega (arith, input, enough) in
    let same_gate : device.gate ≡ device.drain = gate parts.0 in
    let same_source : device.drain ≡ device.source = eqb-true device.drain device.source ends.0 in
    let first : all.first ≡ before = stays_before before device.drain all.first lower all.drain in
    let second : all.second ≡ all.first = stays_before all.first device.gate all.second (omega (arith, lower, same_gate, first)) all.gate in
    stays_before all.second device.source after (omega (arith, lower, same_source, first, second)) all.source ∙ second ∙ first

-- the devices that are left are in order
ordered_moved : (table : StrengthTable) (pins : List RawPin) (homes : List ℕ) (before : ℕ) (devices : List RawDevice) (after : ℕ) → AreHomes (length pins) 0 homes
    → AllByRecursion (IsCard table) devices → after ≤ length homes → length pins ≤ kept_until 0 homes before → AreOrdered before devices after
    → AreOrdered (kept_until 0 homes before) (kept_devices pins (places_from 0 0 homes) devices) (kept_until 0 homes after)
ordered_moved table pins homes before [] after are cards few enough order = ap (kept_until 0 homes) order
ordered_moved table pins homes before (device ∷ devices) after are cards few enough order =
    let most : order.0 ≤ after = ordered_most order.0 devices after order.2 in
    let all : MentionsAll (kept_until 0 homes before) (moved (places_from 0 0 homes) device) (kept_until 0 homes order.0) =
    device_mentioned (length pins) homes before device order.0 are (omega (arith, most, few)) enough order.1 in
    let grows = (all_mentioned (kept_until 0 homes before) (moved (places_from 0 0 homes) device) (kept_until 0 homes order.0) all).0 in
    by (is_dropped pins (moved (places_from 0 0 homes) device)) refl all
    (ordered_moved table pins homes order.0 devices after are cards.1 few (omega (arith, enough, grows)) order.2)
  where
    by : (dropped : Bool) → is_dropped pins (moved (places_from 0 0 homes) device) ≡ dropped
        → MentionsAll (kept_until 0 homes before) (moved (places_from 0 0 homes) device) (kept_until 0 homes order.0)
        → AreOrdered (kept_until 0 homes order.0) (kept_devices pins (places_from 0 0 homes) devices) (kept_until 0 homes after)
        → AreOrdered (kept_until 0 homes before)
        (cond (not dropped) (moved (places_from 0 0 homes) device ∷ kept_devices pins (places_from 0 0 homes) devices) (kept_devices pins (places_from 0 0 homes) devices))
        (kept_until 0 homes after)
    by false is all rest = (kept_until 0 homes order.0, all, rest)
    by true is all rest =
        subst (λ (n : ℕ). AreOrdered n (kept_devices pins (places_from 0 0 homes) devices) (kept_until 0 homes after))
        (dropped_mentions pins (kept_until 0 homes before) (moved (places_from 0 0 homes) device) (kept_until 0 homes order.0)
        (λ resistor. ap (place_in (places_from 0 0 homes)) (gate_is table device cards.0 resistor)) is enough all) rest

-- cards describe them
card_moved : (table : StrengthTable) (places : List ℕ) (device : RawDevice) → IsCard table device → IsCard table (moved places device)
card_moved table places device it = record {
  named = it.named;
  kept = elim it.kept [
    | inl transistor ↦ inl (record { kind = transistor.kind; mos = transistor.mos; width = transistor.width; channel = transistor.channel })
    | inr resistor ↦
        inr (record {
          kind = resistor.kind;
          resistor = resistor.resistor;
          width = resistor.width;
          channel = resistor.channel;
          gate = ap (place_in places) resistor.gate;
        })
  ];
  strong = it.strong;
}

cards_moved : (table : StrengthTable) (pins : List RawPin) (places : List ℕ) (devices : List RawDevice) → AllByRecursion (IsCard table) devices
    → AllByRecursion (IsCard table) (kept_devices pins places devices)
cards_moved table pins places [] all = tt
cards_moved table pins places (device ∷ devices) all = by (not (is_dropped pins (moved places device))) (cards_moved table pins places devices all.1)
  where
    by : (stays : Bool) → AllByRecursion (IsCard table) (kept_devices pins places devices)
        → AllByRecursion (IsCard table) (cond stays (moved places device ∷ kept_devices pins places devices) (kept_devices pins places devices))
    by true rest = (card_moved table places device all.0, rest)
    by false rest = rest

-- and they have some of the names
devices_among : (pins : List RawPin) (places : List ℕ) (devices : List RawDevice) → IsAmong (names_of (kept_devices pins places devices)) (names_of devices)
devices_among pins places [] = NoNames
devices_among pins places (device ∷ devices) = by (not (is_dropped pins (moved places device))) (devices_among pins places devices)
  where
    by : (stays : Bool) → IsAmong (names_of (kept_devices pins places devices)) (names_of devices)
        → IsAmong (names_of (cond stays (moved places device ∷ kept_devices pins places devices) (kept_devices pins places devices))) (device.name ∷ names_of devices)
    by true rest = Keeps device.name rest
    by false rest = Leaves device.name rest

none_among : (names : List (List ℕ)) → IsAmong [] names
none_among [] = NoNames
none_among (name ∷ names) = Leaves name (none_among names)

nets_among : (place : ℕ) (homes : List ℕ) (nets : List (List ℕ)) → IsAmong (kept_nets place homes nets) nets
nets_among place [] nets = none_among nets
nets_among place (home ∷ homes) [] = NoNames
nets_among place (home ∷ homes) (net ∷ nets) = by (is_kept place home) (nets_among (place + 1) homes nets)
  where
    by : (kept : Bool) → IsAmong (kept_nets (place + 1) homes nets) nets
        → IsAmong (cond kept (net ∷ kept_nets (place + 1) homes nets) (kept_nets (place + 1) homes nets)) (net ∷ nets)
    by true rest = Keeps net rest
    by false rest = Leaves net rest

length-kept : (place : ℕ) (homes : List ℕ) (nets : List (List ℕ)) → length homes ≡ length nets
    → length (kept_nets place homes nets) ≡ kept_until place homes (length nets)
length-kept place [] [] same = refl
length-kept place [] (net ∷ nets) same = absurd (omega (arith, same))
length-kept place (home ∷ homes) [] same = absurd (omega (arith, same))
length-kept place (home ∷ homes) (net ∷ nets) same = by (is_kept place home) (length-kept (place + 1) homes nets (omega (arith, same)))
  where
    by : (kept : Bool) → length (kept_nets (place + 1) homes nets) ≡ kept_until (place + 1) homes (length nets)
        → length (cond kept (net ∷ kept_nets (place + 1) homes nets) (kept_nets (place + 1) homes nets))
        ≡ cond kept 1 0 + kept_until (place + 1) homes (length nets)
    by true rest = omega (arith, rest)
    by false rest = omega (arith, rest)

-- the pins are the first nets that are kept
pins_kept : (count place : ℕ) (homes : List ℕ) (pins more : List (List ℕ)) → AreHomes count place homes → place + length pins ≤ count
    → length homes ≡ length (pins ++ more) → Extends pins (kept_nets place homes (pins ++ more))
pins_kept count place homes [] more are lower same = record { more = kept_nets place homes more; is = refl }
pins_kept count place [] (pin ∷ pins) more are lower same = absurd (omega (arith, same))
pins_kept count place (home ∷ homes) (pin ∷ pins) more are lower same = elim are.0 [
  | inl own ↦
      let rest = pins_kept count (place + 1) homes pins more are.1 (omega (arith, lower)) (omega (arith, same)) in
      record {
        more = rest.more;
        is = cond-true (is_kept place home) (pin ∷ kept_nets (place + 1) homes (pins ++ more)) (kept_nets (place + 1) homes (pins ++ more))
            (eq-eqb home place own)
            ∙ ap (λ (names : List (List ℕ)). pin ∷ names) rest.is;
      }
  | inr set ↦ let past = set.1 in absurd (omega (arith, past, lower))
]

-- a subcircuit that can be written can be so with the nets of input pins' sets written as the pins
pub writable_resolved : (table : StrengthTable) → (name : List ℕ) (raw : RawCell) → IsWritable table name (pin_names raw.pins) raw.nets raw.devices
    → IsWritable table name (pin_names raw.pins) (resolved raw).nets (resolved raw).devices
writable_resolved table name raw it =
    let places : List ℕ = places_from 0 0 (homes_of raw) in
    record {
      named = it.named;
      header = it.header;
      spelled = it.spelled;
      distinct = it.distinct;
      cards = cards_moved table raw.pins places raw.devices it.cards;
      order = subst (λ (n : ℕ). AreOrdered n (resolved raw).devices (length (resolved raw).nets)) (pins_stay ∙ sym pin_count)
          (subst (AreOrdered (kept_until 0 (homes_of raw) (length raw.pins)) (resolved raw).devices) (sym (length-kept 0 (homes_of raw) raw.nets home_count))
          (ordered_moved table raw.pins (homes_of raw) (length raw.pins) raw.devices (length raw.nets) are it.cards (omega (arith, home_count))
          (omega (arith, pins_stay)) order));
      names = record {
        pins_first =
            let whole : length (homes_of raw) ≡ length (pin_names raw.pins ++ it.names.pins_first.more) = home_count ∙ ap length it.names.pins_first.is in
            subst (λ (nets : List (List ℕ)). Extends (pin_names raw.pins) (kept_nets 0 (homes_of raw) nets)) (sym it.names.pins_first.is)
            (pins_kept (length raw.pins) 0 (homes_of raw) (pin_names raw.pins) it.names.pins_first.more are (omega (arith, pin_count)) whole);
        named = named_among (nets_among 0 (homes_of raw) raw.nets) it.names.named;
        nets_distinct = distinct_among (nets_among 0 (homes_of raw) raw.nets) it.names.nets_distinct;
        devices_distinct = distinct_among (devices_among raw.pins places raw.devices) it.names.devices_distinct;
      };
    }
  where
    home_count : length (homes_of raw) ≡ length raw.nets
    home_count = length-map-range_with_len (home_of raw) 0 (length raw.nets)

    pin_count : length (pin_names raw.pins) ≡ length raw.pins
    pin_count = length-map raw.pins (λ (pin : RawPin). pin.name)

    are : AreHomes (length raw.pins) 0 (homes_of raw)
    are = homes_are raw 0 (length raw.nets)

    order : AreOrdered (length raw.pins) raw.devices (length raw.nets)
    order = subst (λ (n : ℕ). AreOrdered n raw.devices (length raw.nets)) pin_count it.order

    pins_stay : kept_until 0 (homes_of raw) (length raw.pins) ≡ length raw.pins
    pins_stay =
        let most = ordered_most (length raw.pins) raw.devices (length raw.nets) order in
        until_pins (length raw.pins) 0 (homes_of raw) (length raw.pins) are (omega arith) (omega (arith, most, home_count))

-- no device of a cell that keeps the rules has its drain or its source on an input pin
none_on : (raw : RawCell) → KeepsRules raw → All (λ d. ¬ (IsSome (channel_pin raw.pins d))) raw.devices
none_on raw keeps = elim (none_or_first (λ (d : RawDevice). is_some (channel_pin raw.pins d)) raw.devices) [
  | inl none ↦ none
  | inr found ↦
      let broken = breaks_at raw found.0 found.1 in
      absurd (keeps (InputDrivesChannel (record { 0 = broken.0 }) (record { 0 = found.0 })) broken.1)
]

input_is : (pins : List RawPin) (net : ℕ) → is_input_net pins net ≡ true → IsSome (input_node pins net)
input_is pins net is = by (slice_get pins net) refl
  where
    by : (found : Option RawPin) → slice_get pins net ≡ found → IsSome (input_node pins net)
    by None at = absurd (true≢false (sym is ∙ ap is_input_at at))
    by (Some pin) at = subst (λ (found : Option RawPin). IsSome (input_at pins net found)) (sym at) (by_role pin.role (ap is_input_at (sym at) ∙ is))
      where
        by_role : (given : Role) → is_input given ≡ true → IsSome (input_role given (node_of pins net))
        by_role role.Input is = refl
        by_role role.Output is = absurd cc
        by_role role.Power is = absurd cc
        by_role role.Ground is = absurd cc

-- the device has neither on an input pin
record IsOff (pins : List RawPin) (device : RawDevice) : Type 0 where
  drain : is_input_net pins device.drain ≡ true → ⊥
  source : is_input_net pins device.source ≡ true → ⊥

off_pins : (pins : List RawPin) (device : RawDevice) → ¬ (IsSome (channel_pin pins device)) → IsOff pins device
off_pins pins device none = record {
  drain = λ is. none (first (input_node pins device.drain) (input_node pins device.source) (input_is pins device.drain is));
  source = λ is. none (second (input_node pins device.drain) (input_node pins device.source) (input_is pins device.source is));
}
  where
    first : (one other : Option ℕ) → IsSome one → IsSome (either one other)
    first None other some = absurd (true≢false (sym some))
    first (Some node) other some = refl

    second : (one other : Option ℕ) → IsSome other → IsSome (either one other)
    second None other some = some
    second (Some node) other some = refl

all_off : (raw : RawCell) → KeepsRules raw → (k : ℕ) (device : RawDevice) → slice_get raw.devices k ≡ Some device → IsOff raw.pins device
all_off raw keeps k device there =
    off_pins raw.pins device
    (subst (λ (d : RawDevice). ¬ (IsSome (channel_pin raw.pins d))) (get_or_from_slice_get raw.devices k device device there)
    (none_on raw keeps k device (slice_get_within raw.devices k device there)))

-- so each net is its own home
home_self : (raw : RawCell) → KeepsRules raw → (net : ℕ) → home_of raw net ≡ net
home_self raw keeps net = elim (self_or_owner (λ pin. ⊥) (length raw.pins) (groups_of raw) (owners_of raw) net none) [
  | inl own ↦ own
  | inr some ↦ absurd some.0
]
  where
    none : AllOwn (λ group pin. ⊥) (owners_of raw)
    none =
        after_own (λ group pin. ⊥) raw.pins (groups_of raw) raw.devices (replicate (length raw.nets) None)
        (λ k device there.
        let off = all_off raw keeps k device there in
        record { drain = λ gateless claims. off.drain claims.0; source = λ gateless claims. off.source claims.0 })
        (λ group pin there. absurd (replicate_none (length raw.nets) group pin there))

map_same : {X : Type 0} (f : X → X) (xs : List X) → ((x : X) → f x ≡ x) → map f xs ≡ xs
map_same f [] same = refl
map_same f (x ∷ xs) same = λ j. same x j ∷ map_same f xs same j

filter_all : {X : Type 0} (p : X → Bool) (xs : List X) → ((k : ℕ) (x : X) → slice_get xs k ≡ Some x → p x ≡ true) → filter p xs ≡ xs
filter_all p [] all = refl
filter_all {X} p (x ∷ xs) all =
    cond-true (p x) (x ∷ filter p xs) (filter p xs) (all 0 x refl)
    ∙ ap (λ (rest : List X). x ∷ rest) (filter_all p xs (λ k y there. all (suc k) y there))

-- where each net is its own home, nets stay, and so do places
all_kept : (place : ℕ) (nets : List (List ℕ)) → kept_nets place (range_with_len place (length nets)) nets ≡ nets
all_kept place [] = refl
all_kept place (net ∷ nets) =
    cond-true (place == place) (net ∷ kept_nets (place + 1) (range_with_len (place + 1) (length nets)) nets)
    (kept_nets (place + 1) (range_with_len (place + 1) (length nets)) nets) (eq-eqb place place refl)
    ∙ ap (λ (rest : List (List ℕ)). net ∷ rest) (all_kept (place + 1) nets)

all_placed : (place count : ℕ) → places_from place place (range_with_len place count) ≡ range_with_len place count
all_placed place zero = refl
all_placed place (suc count) =
    cond-true (place == place) (place ∷ places_from (place + 1) (place + 1) (range_with_len (place + 1) count))
    (place ∷ places_from (place + 1) place (range_with_len (place + 1) count)) (eq-eqb place place refl)
    ∙ ap (λ (rest : List ℕ). place ∷ rest) (all_placed (place + 1) count)

range_at : (from count k n : ℕ) → slice_get (range_with_len from count) k ≡ Some n → n ≡ from + k
range_at from zero k n there = absurd (none-some n there)
range_at from (suc count) zero n there = let same = same_Some from n there in omega (arith, same)
range_at from (suc count) (suc k) n there = let same = range_at (from + 1) count k n there in omega (arith, same)

place_same : (count net : ℕ) → place_in (range_with_len 0 count) net ≡ net
place_same count net = by (slice_get (range_with_len 0 count) net) refl
  where
    by : (found : Option ℕ) → slice_get (range_with_len 0 count) net ≡ found → unwrap_or found net ≡ net
    by None at = refl
    by (Some n) at = let same = range_at 0 count net n at in omega (arith, same)

moved_same : (count : ℕ) (device : RawDevice) → moved (range_with_len 0 count) device ≡ device
moved_same count device =
    λ j. record device { drain = place_same count device.drain j; gate = place_same count device.gate j; source = place_same count device.source j }

-- a cell that keeps the rules is resolved as it is
pub resolved_same : (raw : RawCell) → KeepsRules raw → resolved raw ≡ raw
resolved_same raw keeps = λ j. record { pins = raw.pins; nets = nets j; devices = devices j }
  where
    homes : homes_of raw ≡ range_with_len 0 (length raw.nets)
    homes = map_same (home_of raw) (range_with_len 0 (length raw.nets)) (home_self raw keeps)

    nets : kept_nets 0 (homes_of raw) raw.nets ≡ raw.nets
    nets = ap (λ (all : List ℕ). kept_nets 0 all raw.nets) homes ∙ all_kept 0 raw.nets

    stays : (k : ℕ) (device : RawDevice) → slice_get raw.devices k ≡ Some device → not (is_dropped raw.pins device) ≡ true
    stays k device there =
        let off : is_input_net raw.pins device.drain ≡ false = false_from_ne_true (is_input_net raw.pins device.drain) (all_off raw keeps k device there).drain in
        not_from_false (is_dropped raw.pins device)
        (and_right (is_resistor device) _ (and_right (device.drain == device.source) (is_input_net raw.pins device.drain) off))

    devices : kept_devices raw.pins (places_from 0 0 (homes_of raw)) raw.devices ≡ raw.devices
    devices =
        ap (λ (all : List ℕ). kept_devices raw.pins (places_from 0 0 all) raw.devices) homes
        ∙ ap (λ (places : List ℕ). kept_devices raw.pins places raw.devices) (all_placed 0 (length raw.nets))
        ∙ ap (filter (λ device. not (is_dropped raw.pins device)))
        (map_same (moved (range_with_len 0 (length raw.nets))) raw.devices (moved_same (length raw.nets)))
        ∙ filter_all (λ device. not (is_dropped raw.pins device)) raw.devices stays
