-- The home of a net is the first input pin that reaches it, or the net itself where none does.
use Rattle.std.proofs.Common.{◌≡◌, ℕ, ◌<◌, ◌≤◌, ◌⊎◌, inl, inr, List, true}
use Rattle.std.proofs.Common.{length, refl, sym, ◌∙◌, ap, subst, arith}
use Rattle.std.specs.Prelude.{Option, Some, None, slice_get, option_and_then, unwrap_or, replicate}
use Rattle.std.proofs.lemmas.Bool.{leb-false, cases_Bool, cond-true, cond-false}
use Rattle.std.proofs.lemmas.List.{length-replicate}
use Rattle.std.proofs.lemmas.Option.{same_Some, none-some}
use Rattle.ca_cell.specs.declared.raw.RawCell.{RawCell}
use Rattle.ca_cell.specs.Rules.{IsRaw, PlacesWithin}
use Rattle.ca_pin_sets.specs.Groups.{is_inner, group_of, groups_of}
use Rattle.ca_pin_sets.specs.Homes.{is_input_net, owners_of, home_of}
use Rattle.ca_pin_sets.specs.Reached.{AreJoined, Leads, Begins, Onward, Reaches, IsFirstReaching}
use Rattle.ca_pin_sets.proofs.LinkLemmas.{of_all, leads_on, groups_linked, group_there, length-groups_of, joined_within, same_group, group_within}
use Rattle.ca_pin_sets.proofs.OwnerLemmas.{AllOwn, HasBy, HaveOwners, after_own, after_has, replicate_none}

-- the input pin owns the group: a resistor joins it to a net of the group
record Owns (raw : RawCell) (group pin : ℕ) : Type 0 where
  net : ℕ
  input : is_input_net raw.pins pin ≡ true
  inner : length raw.pins ≤ net
  joined : AreJoined raw pin net
  is : group_of (groups_of raw) net ≡ group

owners_own : (raw : RawCell) → AllOwn (Owns raw) (owners_of raw)
owners_own raw =
    after_own (Owns raw) raw.pins (groups_of raw) raw.devices (replicate (length raw.nets) None)
    (λ k device there. record {
      drain = λ gateless claims. record {
        net = device.source;
        input = claims.0;
        inner = claims.1;
        joined = record { place = k; resistor = device; there = there; gateless = gateless; between = inl (refl, refl) };
        is = refl;
      };
      source = λ gateless claims. record {
        net = device.drain;
        input = claims.0;
        inner = claims.1;
        joined = record { place = k; resistor = device; there = there; gateless = gateless; between = inr (refl, refl) };
        is = refl;
      };
    })
    (λ group pin there. absurd (replicate_none (length raw.nets) group pin there))

-- a pin that a resistor joins to a net owns its group, or one before it does
joined_has : (raw : RawCell) (pin net : ℕ) → IsRaw raw → is_input_net raw.pins pin ≡ true → AreJoined raw pin net → length raw.pins ≤ net
    → HasBy (owners_of raw) (group_of (groups_of raw) net) pin
joined_has raw pin net is_raw input are inner = elim are.between [
  | inl ends ↦
      subst (λ (n : ℕ). HasBy (owners_of raw) (group_of (groups_of raw) n) pin) ends.1
      (subst (λ (p : ℕ). HasBy (owners_of raw) (group_of (groups_of raw) are.resistor.source) p) ends.0
      (have.drain (subst (λ (p : ℕ). is_input_net raw.pins p ≡ true) (sym ends.0) input, subst (λ (n : ℕ). length raw.pins ≤ n) (sym ends.1) inner)))
  | inr ends ↦
      subst (λ (n : ℕ). HasBy (owners_of raw) (group_of (groups_of raw) n) pin) ends.0
      (subst (λ (p : ℕ). HasBy (owners_of raw) (group_of (groups_of raw) are.resistor.drain) p) ends.1
      (have.source (subst (λ (p : ℕ). is_input_net raw.pins p ≡ true) (sym ends.1) input, subst (λ (n : ℕ). length raw.pins ≤ n) (sym ends.0) inner)))
]
  where
    places : PlacesWithin (length raw.nets) are.resistor
    places = of_all (PlacesWithin (length raw.nets)) raw.devices are.place are.resistor is_raw.places are.there

    fresh : List (Option ℕ)
    fresh = replicate (length raw.nets) None

    room : (place : ℕ) → place < length raw.nets → group_of (groups_of raw) place < length fresh
    room place within =
        subst (λ (n : ℕ). group_of (groups_of raw) place < n) (sym (length-replicate (length raw.nets) None)) (group_within raw place is_raw within)

    have : HaveOwners raw.pins (groups_of raw) are.resistor (owners_of raw)
    have =
        after_has raw.pins (groups_of raw) raw.devices (replicate (length raw.nets) None) are.place are.resistor are.there are.gateless
        (room are.resistor.drain places.drain) (room are.resistor.source places.source)

-- so does a pin that reaches a net
pub chain_inner : (raw : RawCell) (from net : ℕ) → Leads raw from net → length raw.pins ≤ net
chain_inner raw from net (Begins are inner) = inner
chain_inner raw from net (Onward before chain are inner) = inner

chain_has : (raw : RawCell) (pin net : ℕ) → IsRaw raw → is_input_net raw.pins pin ≡ true → Leads raw pin net
    → HasBy (owners_of raw) (group_of (groups_of raw) net) pin
chain_has raw pin net is_raw input (Begins are inner) = joined_has raw pin net is_raw input are inner
chain_has raw pin net is_raw input (Onward before chain are inner) =
    subst (λ (g : ℕ). HasBy (owners_of raw) g pin) (same_group raw before net is_raw are (chain_inner raw pin before chain) inner)
    (chain_has raw pin before is_raw input chain)

-- the owner of a net's group reaches the net
owner_reaches : (raw : RawCell) (net pin : ℕ) → IsRaw raw → net < length raw.nets
    → slice_get (owners_of raw) (group_of (groups_of raw) net) ≡ Some (Some pin) → Reaches raw net pin
owner_reaches raw net pin is_raw within there =
    record {
      input = owns.input;
      chain = elim linked [
        | inl same ↦ subst (Leads raw pin) same (Begins owns.joined owns.inner)
        | inr more ↦ leads_on raw pin owns.net net (Begins owns.joined owns.inner) more.1
      ];
    }
  where
    owns : Owns raw (group_of (groups_of raw) net) pin
    owns = owners_own raw (group_of (groups_of raw) net) pin there

    place : owns.net < length (groups_of raw)
    place = subst (λ (n : ℕ). owns.net < n) (sym (length-groups_of raw)) (joined_within raw pin owns.net is_raw owns.joined).1

    linked : (owns.net ≡ net) ⊎ ((length raw.pins ≤ owns.net) × Leads raw owns.net net)
    linked =
        groups_linked raw is_raw owns.net net (group_of (groups_of raw) net)
        (group_there (groups_of raw) owns.net place ∙ ap (λ (n : ℕ). Some n) owns.is)
        (group_there (groups_of raw) net (subst (λ (n : ℕ). net < n) (sym (length-groups_of raw)) within))

-- what a home is
abbrev IsHome : RawCell → ℕ → ℕ → Type 0
IsHome raw net home = IsFirstReaching raw net home ⊎ ((home ≡ net) × ((pin : ℕ) → Reaches raw net pin → ⊥))

-- no other owner is found where one is
found_apart : (owners : List (Option ℕ)) (group pin : ℕ) → HasBy owners group pin → (slice_get owners group ≡ None → ⊥) × (slice_get owners group ≡ Some None → ⊥)
found_apart owners group pin has =
    ((λ none. none-some (Some has.0) (sym none ∙ has.1)), (λ none. none-some has.0 (same_Some None (Some has.0) (sym none ∙ has.1))))

inner_home : (raw : RawCell) (net : ℕ) → IsRaw raw → net < length raw.nets → (found : Option (Option ℕ))
    → slice_get (owners_of raw) (group_of (groups_of raw) net) ≡ found → IsHome raw net (unwrap_or (option_and_then (λ owner. owner) found) net)
inner_home raw net is_raw within None there =
    inr (refl, λ pin reaches. (found_apart (owners_of raw) (group_of (groups_of raw) net) pin (chain_has raw pin net is_raw reaches.input reaches.chain)).0 there)
inner_home raw net is_raw within (Some None) there =
    inr (refl, λ pin reaches. (found_apart (owners_of raw) (group_of (groups_of raw) net) pin (chain_has raw pin net is_raw reaches.input reaches.chain)).1 there)
inner_home raw net is_raw within (Some (Some pin)) there =
    inl (record {
      reaches = owner_reaches raw net pin is_raw within there;
      first = λ other reaches.
          let has = chain_has raw other net is_raw reaches.input reaches.chain in
          let same : pin ≡ has.0 = same_Some pin has.0 (same_Some (Some pin) (Some has.0) (sym there ∙ has.1)) in
          let lower : has.0 ≤ other = has.2 in
          omega (arith, same, lower);
    })

pub home_is : (raw : RawCell) (net : ℕ) → IsRaw raw → net < length raw.nets → IsHome raw net (home_of raw net)
home_is raw net is_raw within = elim (cases_Bool (is_inner (length raw.pins) net)) [
  | inl inner ↦
      subst (IsHome raw net)
      (sym (cond-true (is_inner (length raw.pins) net)
      (unwrap_or (option_and_then (λ owner. owner) (slice_get (owners_of raw) (group_of (groups_of raw) net))) net) net inner))
      (inner_home raw net is_raw within (slice_get (owners_of raw) (group_of (groups_of raw) net)) refl)
  | inr pin ↦
      subst (IsHome raw net)
      (sym (cond-false (is_inner (length raw.pins) net)
      (unwrap_or (option_and_then (λ owner. owner) (slice_get (owners_of raw) (group_of (groups_of raw) net))) net) net pin))
      (inr (
        refl,
        λ other reaches.
            let before : net < length raw.pins = leb-false (length raw.pins) net pin in
            let after : length raw.pins ≤ net = chain_inner raw other net reaches.chain in
            omega (arith, before, after),
      ))
]
