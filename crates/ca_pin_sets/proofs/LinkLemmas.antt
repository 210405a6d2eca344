-- Nets of one group: they are those that chains of resistors join through inner nets alone.
use Rattle.std.proofs.Common.{◌≡◌, ℕ, zero, suc, ◌<◌, ◌≤◌, ◌==◌, ◌&&◌, ◌⊎◌, inl, inr, List, Bool, true, false, [], ◌∷◌}
use Rattle.std.proofs.Common.{map, length, refl, sym, ◌∙◌, ap, subst, arith, cond}
use Rattle.std.specs.Prelude.{Option, Some, None, slice_get, option_map, min, max}
use Rattle.std.specs.List.{All}
use Rattle.std.proofs.lemmas.Bool.{and_parts, and_from, leb-true, le-leb, eqb-true, eq-eqb, cond_both, cases_lt, both_ways, not-true, not_from_false}
use Rattle.std.proofs.lemmas.List.{length-map}
use Rattle.std.proofs.lemmas.List.Elements.{All-tail}
use Rattle.std.proofs.lemmas.List.FromFn.{length-range_with_len}
use Rattle.std.proofs.lemmas.Option.{slice_get-map, same_Some, none-some, slice_get_within, slice_get-get_or, unwrap_or-slice_get, get_or_from_slice_get}
use Rattle.ca_cell.specs.declared.raw.RawDevice.{RawDevice}
use Rattle.ca_cell.specs.declared.raw.RawCell.{RawCell}
use Rattle.ca_cell.specs.Devices.{has_gate}
use Rattle.ca_cell.specs.Rules.{IsRaw, PlacesWithin}
use Rattle.ca_pin_sets.specs.Groups.{is_resistor, is_inner, alone, united, group_of, joins, joined, groups_after, groups_of}
use Rattle.ca_pin_sets.specs.Reached.{AreJoined, Leads, Begins, Onward}
use Rattle.ca_pin_sets.proofs.ForestLemmas.{range_at}

-- what holds of all holds of the one at a place
pub of_all : {X : Type 0} (P : X → Type 0) (xs : List X) (k : ℕ) (x : X) → All P xs → slice_get xs k ≡ Some x → P x
of_all P xs k x all there = subst P (get_or_from_slice_get xs k x x there) (all k x (slice_get_within xs k x there))

pub joined_back : (raw : RawCell) (one other : ℕ) → AreJoined raw one other → AreJoined raw other one
joined_back raw one other are = record {
  place = are.place;
  resistor = are.resistor;
  there = are.there;
  gateless = are.gateless;
  between = elim are.between [ inl ends ↦ inr ends | inr ends ↦ inl ends ];
}

-- chains go on and lead back
leads_inner : (raw : RawCell) (from net : ℕ) → Leads raw from net → length raw.pins ≤ net
leads_inner raw from net (Begins are inner) = inner
leads_inner raw from net (Onward before chain are inner) = inner

pub leads_on : (raw : RawCell) (from via net : ℕ) → Leads raw from via → Leads raw via net → Leads raw from net
leads_on raw from via net first (Begins are inner) = Onward via first are inner
leads_on raw from via net first (Onward before chain are inner) = Onward before (leads_on raw from via before first chain) are inner

leads_back : (raw : RawCell) (from net : ℕ) → length raw.pins ≤ from → Leads raw from net → Leads raw net from
leads_back raw from net here (Begins are inner) = Begins (joined_back raw from net are) here
leads_back raw from net here (Onward before chain are inner) =
    leads_on raw net before from (Begins (joined_back raw before net are) (leads_inner raw from before chain)) (leads_back raw from before here chain)

-- the nets are one, or inner ones with a chain from one to the other
abbrev pub AreLinked : RawCell → ℕ → ℕ → Type 0
AreLinked raw one other = (one ≡ other) ⊎ ((length raw.pins ≤ one) × Leads raw one other)

linked_on : (raw : RawCell) (one via other : ℕ) → AreLinked raw one via → AreLinked raw via other → AreLinked raw one other
linked_on raw one via other first second = elim first [
  | inl same ↦ subst (λ (n : ℕ). AreLinked raw n other) (sym same) second
  | inr chain ↦ elim second [
    | inl same ↦ subst (λ (n : ℕ). AreLinked raw one n) same (inr chain)
    | inr more ↦ inr (chain.0, leads_on raw one via other chain.1 more.1)
  ]
]

linked_back : (raw : RawCell) (one other : ℕ) → AreLinked raw one other → AreLinked raw other one
linked_back raw one other linked = elim linked [
  | inl same ↦ inl (sym same)
  | inr chain ↦ inr (leads_inner raw one other chain.1, leads_back raw one other chain.0 chain.1)
]

-- nets of one group are linked
abbrev pub LinkAll : RawCell → List ℕ → Type 0
LinkAll raw groups = (one other group : ℕ) → slice_get groups one ≡ Some group → slice_get groups other ≡ Some group → AreLinked raw one other

alone_linked : (raw : RawCell) (nets : ℕ) → LinkAll raw (alone nets)
alone_linked raw nets one other group there too =
    let first = range_at 0 nets one group there in
    let second = range_at 0 nets other group too in
    inl (omega (arith, first, second))

-- a net's group before a group became another
was : (high low group : ℕ) (o : Option ℕ) → option_map (λ (g : ℕ). cond (g == high) low g) o ≡ Some group
    → (o ≡ Some group) ⊎ ((o ≡ Some high) × (group ≡ low))
was high low group None is = absurd (none-some group is)
was high low group (Some old) is = by (old == high) refl (same_Some (cond (old == high) low old) group is)
  where
    by : (b : Bool) → (old == high) ≡ b → cond b low old ≡ group
        → (Some old ≡ Some group) ⊎ ((Some old ≡ Some high) × (group ≡ low))
    by true same new = inr (ap (λ (n : ℕ). Some n) (eqb-true old high same), sym new)
    by false other new = inl (ap (λ (n : ℕ). Some n) new)

merged_linked : (raw : RawCell) (groups : List ℕ) (high low top bottom : ℕ) → LinkAll raw groups → slice_get groups top ≡ Some high
    → slice_get groups bottom ≡ Some low → AreLinked raw top bottom → LinkAll raw (map (λ group. cond (group == high) low group) groups)
merged_linked raw groups high low top bottom all at_top at_bottom linked one other group there too =
    elim (was high low group (slice_get groups one) (sym (slice_get-map (λ (g : ℕ). cond (g == high) low g) groups one) ∙ there)) [
      | inl old ↦ elim second [
        | inl old_too ↦ all one other group old old_too
        | inr moved ↦
            let is_low : slice_get groups one ≡ Some low = old ∙ ap (λ (n : ℕ). Some n) moved.1 in
            linked_on raw one bottom other (all one bottom low is_low at_bottom)
            (linked_on raw bottom top other (linked_back raw top bottom linked) (all top other high at_top moved.0))
      ]
      | inr moved ↦ elim second [
        | inl old_too ↦
            let is_low : slice_get groups other ≡ Some low = old_too ∙ ap (λ (n : ℕ). Some n) moved.1 in
            linked_on raw one top other (all one top high moved.0 at_top) (linked_on raw top bottom other linked (all bottom other low at_bottom is_low))
        | inr moved_too ↦ all one other high moved.0 moved_too.0
      ]
    ]
  where
    second : (slice_get groups other ≡ Some group) ⊎ ((slice_get groups other ≡ Some high) × (group ≡ low))
    second = was high low group (slice_get groups other) (sym (slice_get-map (λ (g : ℕ). cond (g == high) low g) groups other) ∙ too)

united_linked : (raw : RawCell) (groups : List ℕ) (first second one other : ℕ) → LinkAll raw groups → slice_get groups one ≡ Some first
    → slice_get groups other ≡ Some second → AreLinked raw one other → LinkAll raw (united first second groups)
united_linked raw groups first second one other all at_one at_other linked = elim (cases_lt first second) [
  | inl lower ↦
      let high : max first second ≡ second = omega (arith, lower) in
      let low : min first second ≡ first = omega (arith, lower) in
      subst (λ (n : ℕ). LinkAll raw (map (λ group. cond (group == n) (min first second) group) groups)) (sym high)
      (subst (λ (n : ℕ). LinkAll raw (map (λ group. cond (group == second) n group) groups)) (sym low)
      (merged_linked raw groups second first other one all at_other at_one (linked_back raw one other linked)))
  | inr higher ↦
      let high : max first second ≡ first = omega (arith, higher) in
      let low : min first second ≡ second = omega (arith, higher) in
      subst (λ (n : ℕ). LinkAll raw (map (λ group. cond (group == n) (min first second) group) groups)) (sym high)
      (subst (λ (n : ℕ). LinkAll raw (map (λ group. cond (group == first) n group) groups)) (sym low)
      (merged_linked raw groups first second one other all at_one at_other linked))
]

-- the group of a net that there is
pub group_there : (groups : List ℕ) (net : ℕ) → net < length groups → slice_get groups net ≡ Some (group_of groups net)
group_there groups net within =
    slice_get-get_or groups net net within ∙ ap (λ (n : ℕ). Some n) (sym (unwrap_or-slice_get groups net net))

pub length-joined : (pins : ℕ) (device : RawDevice) (groups : List ℕ) → length (joined pins device groups) ≡ length groups
length-joined pins device groups = by (joins pins device)
  where
    one : ℕ
    one = group_of groups device.drain

    other : ℕ
    other = group_of groups device.source

    by : (b : Bool) → length (cond b (united one other groups) groups) ≡ length groups
    by true = length-map groups (λ (g : ℕ). cond (g == max one other) (min one other) g)
    by false = refl

pub length-groups_after : (pins : ℕ) (devices : List RawDevice) (groups : List ℕ) → length (groups_after pins groups devices) ≡ length groups
length-groups_after pins [] groups = refl
length-groups_after pins (device ∷ devices) groups =
    length-groups_after pins devices (joined pins device groups) ∙ length-joined pins device groups

pub length-groups_of : (raw : RawCell) → length (groups_of raw) ≡ length raw.nets
length-groups_of raw = length-groups_after (length raw.pins) raw.devices (alone (length raw.nets)) ∙ length-range_with_len 0 (length raw.nets)

-- what a device that joins groups is
pub joins_parts : (pins : ℕ) (device : RawDevice) → joins pins device ≡ true
    → (has_gate device.kind ≡ false) × (pins ≤ device.drain) × (pins ≤ device.source)
joins_parts pins device is =
    let first = and_parts (is_resistor device) (is_inner pins device.drain && is_inner pins device.source) is in
    let ends = and_parts (is_inner pins device.drain) (is_inner pins device.source) first.1 in
    (not-true (has_gate device.kind) first.0, leb-true pins device.drain ends.0, leb-true pins device.source ends.1)

joins_from : (pins : ℕ) (device : RawDevice) → has_gate device.kind ≡ false → pins ≤ device.drain → pins ≤ device.source → joins pins device ≡ true
joins_from pins device gateless drain source =
    and_from (is_resistor device) (is_inner pins device.drain && is_inner pins device.source) (not_from_false (has_gate device.kind) gateless)
    (and_from (is_inner pins device.drain) (is_inner pins device.source) (le-leb pins device.drain drain) (le-leb pins device.source source))

-- the device has places, and links its ends where it joins groups
record MayJoin (raw : RawCell) (nets : ℕ) (device : RawDevice) : Type 0 where
  places : PlacesWithin nets device
  links : joins (length raw.pins) device ≡ true → AreLinked raw device.drain device.source

joined_linked : (raw : RawCell) (device : RawDevice) (groups : List ℕ) → MayJoin raw (length groups) device → LinkAll raw groups
    → LinkAll raw (joined (length raw.pins) device groups)
joined_linked raw device groups may all =
    cond_both (joins (length raw.pins) device) (united (group_of groups device.drain) (group_of groups device.source) groups) groups (LinkAll raw)
    (λ is.
    united_linked raw groups (group_of groups device.drain) (group_of groups device.source) device.drain device.source all
    (group_there groups device.drain may.places.drain) (group_there groups device.source may.places.source) (may.links is))
    (λ is_not. all)

after_linked : (raw : RawCell) (nets : ℕ) (devices : List RawDevice) (groups : List ℕ) → length groups ≡ nets
    → ((k : ℕ) (device : RawDevice) → slice_get devices k ≡ Some device → MayJoin raw nets device) → LinkAll raw groups
    → LinkAll raw (groups_after (length raw.pins) groups devices)
after_linked raw nets [] groups count each all = all
after_linked raw nets (device ∷ devices) groups count each all =
    after_linked raw nets devices (joined (length raw.pins) device groups) (length-joined (length raw.pins) device groups ∙ count)
    (λ k next there. each (suc k) next there)
    (joined_linked raw device groups (subst (λ (n : ℕ). MayJoin raw n device) (sym count) (each 0 device refl)) all)

-- nets of one group are linked
pub groups_linked : (raw : RawCell) → IsRaw raw → LinkAll raw (groups_of raw)
groups_linked raw is_raw =
    after_linked raw (length raw.nets) raw.devices (alone (length raw.nets)) (length-range_with_len 0 (length raw.nets))
    (λ k device there. record {
      places = of_all (PlacesWithin (length raw.nets)) raw.devices k device is_raw.places there;
      links = λ is.
          let parts = joins_parts (length raw.pins) device is in
          inr (parts.1, Begins (record { place = k; resistor = device; there = there; gateless = parts.0; between = inl (refl, refl) }) parts.2);
    })
    (alone_linked raw (length raw.nets))

-- nets of one group stay so
united_kept : (groups : List ℕ) (first second one other : ℕ) → slice_get groups one ≡ slice_get groups other
    → slice_get (united first second groups) one ≡ slice_get (united first second groups) other
united_kept groups first second one other same =
    slice_get-map (λ (g : ℕ). cond (g == max first second) (min first second) g) groups one
    ∙ ap (option_map (λ (g : ℕ). cond (g == max first second) (min first second) g)) same
    ∙ sym (slice_get-map (λ (g : ℕ). cond (g == max first second) (min first second) g) groups other)

joined_kept : (pins : ℕ) (device : RawDevice) (groups : List ℕ) (one other : ℕ) → slice_get groups one ≡ slice_get groups other
    → slice_get (joined pins device groups) one ≡ slice_get (joined pins device groups) other
joined_kept pins device groups one other same =
    cond_both (joins pins device) (united (group_of groups device.drain) (group_of groups device.source) groups) groups
    (λ (gs : List ℕ). slice_get gs one ≡ slice_get gs other)
    (λ is. united_kept groups (group_of groups device.drain) (group_of groups device.source) one other same)
    (λ is_not. same)

after_kept : (pins : ℕ) (devices : List RawDevice) (groups : List ℕ) (one other : ℕ) → slice_get groups one ≡ slice_get groups other
    → slice_get (groups_after pins groups devices) one ≡ slice_get (groups_after pins groups devices) other
after_kept pins [] groups one other same = same
after_kept pins (device ∷ devices) groups one other same =
    after_kept pins devices (joined pins device groups) one other (joined_kept pins device groups one other same)

-- two groups become the lower of them
first_lower : (first second : ℕ) → cond (first == max first second) (min first second) first ≡ min first second
first_lower first second =
    cond_both (first == max first second) (min first second) first (λ (n : ℕ). n ≡ min first second) (λ is. refl)
    (λ is_not. elim (cases_lt first second) [
      | inl lower ↦ omega (arith, lower)
      | inr higher ↦
          let top : first ≡ max first second = omega (arith, higher) in
          absurd (both_ways (first == max first second) is_not (eq-eqb first (max first second) top))
    ])

second_lower : (first second : ℕ) → cond (second == max first second) (min first second) second ≡ min first second
second_lower first second =
    cond_both (second == max first second) (min first second) second (λ (n : ℕ). n ≡ min first second) (λ is. refl)
    (λ is_not. elim (cases_lt first second) [
      | inl lower ↦
          let top : second ≡ max first second = omega (arith, lower) in
          absurd (both_ways (second == max first second) is_not (eq-eqb second (max first second) top))
      | inr higher ↦ omega (arith, higher)
    ])

united_together : (groups : List ℕ) (first second one other : ℕ) → slice_get groups one ≡ Some first → slice_get groups other ≡ Some second
    → slice_get (united first second groups) one ≡ slice_get (united first second groups) other
united_together groups first second one other at_one at_other =
    slice_get-map (λ (g : ℕ). cond (g == max first second) (min first second) g) groups one
    ∙ ap (option_map (λ (g : ℕ). cond (g == max first second) (min first second) g)) at_one
    ∙ ap (λ (n : ℕ). Some n) (first_lower first second ∙ sym (second_lower first second))
    ∙ sym (ap (option_map (λ (g : ℕ). cond (g == max first second) (min first second) g)) at_other)
    ∙ sym (slice_get-map (λ (g : ℕ). cond (g == max first second) (min first second) g) groups other)

-- a device that joins groups has both ends in one
after_together : (pins nets : ℕ) (devices : List RawDevice) (groups : List ℕ) (k : ℕ) (device : RawDevice) → length groups ≡ nets
    → slice_get devices k ≡ Some device → PlacesWithin nets device → joins pins device ≡ true
    → slice_get (groups_after pins groups devices) device.drain ≡ slice_get (groups_after pins groups devices) device.source
after_together pins nets [] groups k device count there places is = absurd (none-some device there)
after_together pins nets (first ∷ devices) groups zero device count there places is =
    after_kept pins devices (joined pins first groups) device.drain device.source
    (subst (λ (d : RawDevice). slice_get (joined pins first groups) d.drain ≡ slice_get (joined pins first groups) d.source) same
    (cond_both (joins pins first) (united one other groups) groups (λ (gs : List ℕ). slice_get gs first.drain ≡ slice_get gs first.source)
    (λ joins_them.
    united_together groups one other first.drain first.source (group_there groups first.drain drain_within) (group_there groups first.source source_within))
    (λ is_not. absurd (both_ways (joins pins first) is_not (subst (λ (d : RawDevice). joins pins d ≡ true) (sym same) is)))))
  where
    same : first ≡ device
    same = same_Some first device there

    one : ℕ
    one = group_of groups first.drain

    other : ℕ
    other = group_of groups first.source

    within : PlacesWithin (length groups) first
    within = subst (λ (n : ℕ). PlacesWithin n first) (sym count) (subst (PlacesWithin nets) (sym same) places)

    drain_within : first.drain < length groups
    drain_within = within.drain

    source_within : first.source < length groups
    source_within = within.source
after_together pins nets (first ∷ devices) groups (suc k) device count there places is =
    after_together pins nets devices (joined pins first groups) k device (length-joined pins first groups ∙ count) there places is

-- the places of what joins two nets
pub joined_within : (raw : RawCell) (one other : ℕ) → IsRaw raw → AreJoined raw one other → (one < length raw.nets) × (other < length raw.nets)
joined_within raw one other is_raw are = elim are.between [
  | inl ends ↦ (subst (λ (n : ℕ). n < length raw.nets) ends.0 places.drain, subst (λ (n : ℕ). n < length raw.nets) ends.1 places.source)
  | inr ends ↦ (subst (λ (n : ℕ). n < length raw.nets) ends.1 places.source, subst (λ (n : ℕ). n < length raw.nets) ends.0 places.drain)
]
  where
    places : PlacesWithin (length raw.nets) are.resistor
    places = of_all (PlacesWithin (length raw.nets)) raw.devices are.place are.resistor is_raw.places are.there

-- inner nets that a resistor joins have one group
pub same_group : (raw : RawCell) (one other : ℕ) → IsRaw raw → AreJoined raw one other → length raw.pins ≤ one → length raw.pins ≤ other
    → group_of (groups_of raw) one ≡ group_of (groups_of raw) other
same_group raw one other is_raw are inner too =
    let within = joined_within raw one other is_raw are in
    same_Some (group_of groups one) (group_of groups other)
    (sym (group_there groups one (subst (λ (n : ℕ). one < n) (sym (length-groups_of raw)) within.0)) ∙ together
    ∙ group_there groups other (subst (λ (n : ℕ). other < n) (sym (length-groups_of raw)) within.1))
  where
    groups : List ℕ
    groups = groups_of raw

    at_ends : joins (length raw.pins) are.resistor ≡ true → slice_get groups are.resistor.drain ≡ slice_get groups are.resistor.source
    at_ends is =
        after_together (length raw.pins) (length raw.nets) raw.devices (alone (length raw.nets)) are.place are.resistor
        (length-range_with_len 0 (length raw.nets)) are.there
        (of_all (PlacesWithin (length raw.nets)) raw.devices are.place are.resistor is_raw.places are.there) is

    together : slice_get groups one ≡ slice_get groups other
    together = elim are.between [
      | inl ends ↦
          ap (slice_get groups) (sym ends.0) ∙ at_ends (joins_from (length raw.pins) are.resistor are.gateless
          (subst (λ (n : ℕ). length raw.pins ≤ n) (sym ends.0) inner) (subst (λ (n : ℕ). length raw.pins ≤ n) (sym ends.1) too))
          ∙ ap (slice_get groups) ends.1
      | inr ends ↦
          ap (slice_get groups) (sym ends.1) ∙ sym (at_ends (joins_from (length raw.pins) are.resistor are.gateless
          (subst (λ (n : ℕ). length raw.pins ≤ n) (sym ends.0) too) (subst (λ (n : ℕ). length raw.pins ≤ n) (sym ends.1) inner)))
          ∙ ap (slice_get groups) ends.0
    ]

-- groups are places of nets
abbrev pub AreWithin : ℕ → List ℕ → Type 0
AreWithin nets groups = (k group : ℕ) → slice_get groups k ≡ Some group → group < nets

united_within : (nets : ℕ) (groups : List ℕ) (first second : ℕ) → first < nets → AreWithin nets groups → AreWithin nets (united first second groups)
united_within nets groups first second within all k group there =
    elim (was (max first second) (min first second) group (slice_get groups k)
    (sym (slice_get-map (λ (g : ℕ). cond (g == max first second) (min first second) g) groups k) ∙ there)) [
      | inl old ↦ all k group old
      | inr moved ↦ let is : group ≡ min first second = moved.1 in omega (arith, is, within)
    ]

after_within : (pins nets : ℕ) (devices : List RawDevice) (groups : List ℕ) → length groups ≡ nets → All (PlacesWithin nets) devices
    → AreWithin nets groups → AreWithin nets (groups_after pins groups devices)
after_within pins nets [] groups count places all = all
after_within pins nets (device ∷ devices) groups count places all =
    after_within pins nets devices (joined pins device groups) (length-joined pins device groups ∙ count)
    (All-tail (PlacesWithin nets) device devices places)
    (cond_both (joins pins device) (united (group_of groups device.drain) (group_of groups device.source) groups) groups (AreWithin nets)
    (λ is. united_within nets groups (group_of groups device.drain) (group_of groups device.source) drain all)
    (λ is_not. all))
  where
    drain_place : device.drain < nets
    drain_place = (of_all (PlacesWithin nets) (device ∷ devices) 0 device places refl).drain

    drain : group_of groups device.drain < nets
    drain =
        all device.drain (group_of groups device.drain)
        (group_there groups device.drain (subst (λ (n : ℕ). device.drain < n) (sym count) drain_place))

pub group_within : (raw : RawCell) (net : ℕ) → IsRaw raw → net < length raw.nets → group_of (groups_of raw) net < length raw.nets
group_within raw net is_raw within =
    after_within (length raw.pins) (length raw.nets) raw.devices (alone (length raw.nets)) (length-range_with_len 0 (length raw.nets)) is_raw.places
    (λ k group there.
    let is = range_at 0 (length raw.nets) k group there in
    let place = slice_get_within (alone (length raw.nets)) k group there in
    let count = length-range_with_len 0 (length raw.nets) in
    omega (arith, is, place, count))
    net (group_of (groups_of raw) net)
    (group_there (groups_of raw) net (subst (λ (n : ℕ). net < n) (sym (length-groups_of raw)) within))

-- the same places, by other names
pub places_same : (nets count : ℕ) (devices others : List RawDevice) → nets ≡ count → devices ≡ others → All (PlacesWithin nets) devices
    → All (PlacesWithin count) others
places_same nets count devices others same are all =
    subst (All (PlacesWithin count)) are (subst (λ (n : ℕ). All (PlacesWithin n) devices) same all)
