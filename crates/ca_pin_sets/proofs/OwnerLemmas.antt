-- Owners of groups: each is an input pin that a resistor joins to a net of the group, and none before it is.
use Rattle.std.proofs.Common.{◌≡◌, ℕ, zero, suc, ◌<◌, ◌≤◌, ◌&&◌, ◌⊎◌, inl, inr, List, true, false, [], ◌∷◌}
use Rattle.std.proofs.Common.{length, refl, sym, ◌∙◌, ap, subst, arith}
use Rattle.std.specs.Prelude.{Option, Some, None, slice_get, slice_set, option_and_then, min, replicate}
use Rattle.std.proofs.lemmas.Bool.{and_parts, and_from, leb-true, le-leb, cond_both, cond-true, cases_lt, cases_eq, not-true, not_from_false}
use Rattle.std.proofs.lemmas.Option.{same_Some, none-some, slice_get_within}
use Rattle.ca_cell.specs.declared.raw.RawPin.{RawPin}
use Rattle.ca_cell.specs.declared.raw.RawDevice.{RawDevice}
use Rattle.ca_cell.specs.Devices.{has_gate}
use Rattle.ca_pin_sets.specs.Groups.{is_resistor, is_inner, group_of}
use Rattle.ca_pin_sets.specs.Homes.{is_input_net, first_of, claimed, claimed_by, owners_after}
use Rattle.ca_pin_sets.proofs.ForestLemmas.{at_set, at_other, length-set}

-- what stands in a list of which one place was set
set_was : {X : Type 0} (xs : List X) (i j : ℕ) (new x : X) → slice_get (slice_set xs i new) j ≡ Some x
    → (slice_get xs j ≡ Some x) ⊎ ((j ≡ i) × (x ≡ new))
set_was [] i j new x is = absurd (none-some x is)
set_was (y ∷ xs) zero zero new x is = inr (refl, sym (same_Some new x is))
set_was (y ∷ xs) zero (suc j) new x is = inl is
set_was (y ∷ xs) (suc i) zero new x is = inl is
set_was (y ∷ xs) (suc i) (suc j) new x is = elim (set_was xs i j new x is) [
  | inl old ↦ inl old
  | inr set ↦ inr (ap suc set.0, set.1)
]

-- the owner of a group, if it has one
abbrev owner_in : Option (Option ℕ) → Option ℕ
owner_in found = option_and_then (λ owner. owner) found

first_was : (pin : ℕ) (found : Option (Option ℕ)) → (first_of pin (owner_in found) ≡ pin) ⊎ (found ≡ Some (Some (first_of pin (owner_in found))))
first_was pin None = inl refl
first_was pin (Some None) = inl refl
first_was pin (Some (Some other)) = elim (cases_lt pin other) [
  | inl lower ↦ let is : min pin other ≡ pin = omega (arith, lower) in inl is
  | inr higher ↦
      let is : min pin other ≡ other = omega (arith, higher) in
      inr (ap (λ (n : ℕ). Some (Some n)) (sym is))
]

first_low : (pin : ℕ) (found : Option (Option ℕ)) → first_of pin (owner_in found) ≤ pin
first_low pin None = omega arith
first_low pin (Some None) = omega arith
first_low pin (Some (Some other)) = omega arith

-- the owners that there are have what each claim had
abbrev pub AllOwn : (ℕ → ℕ → Type 0) → List (Option ℕ) → Type 0
AllOwn P owners = (group pin : ℕ) → slice_get owners group ≡ Some (Some pin) → P group pin

-- the group has an owner, at most a pin
abbrev pub HasBy : List (Option ℕ) → ℕ → ℕ → Type 0
HasBy owners group pin = (owner : ℕ) × (slice_get owners group ≡ Some (Some owner)) × (owner ≤ pin)

-- the resistor joins the input pin to an inner net
abbrev pub Claims : List RawPin → ℕ → ℕ → Type 0
Claims pins pin net = (is_input_net pins pin ≡ true) × (length pins ≤ net)

abbrev set_owner : List ℕ → ℕ → ℕ → List (Option ℕ) → List (Option ℕ)
set_owner groups pin net owners =
    slice_set owners (group_of groups net) (Some (first_of pin (owner_in (slice_get owners (group_of groups net)))))

length-claimed : (pins : List RawPin) (groups : List ℕ) (pin net : ℕ) (owners : List (Option ℕ))
    → length (claimed pins groups pin net owners) ≡ length owners
length-claimed pins groups pin net owners =
    cond_both (is_input_net pins pin && is_inner (length pins) net) (set_owner groups pin net owners) owners
    (λ (os : List (Option ℕ)). length os ≡ length owners)
    (λ is. length-set owners (group_of groups net) (Some (first_of pin (owner_in (slice_get owners (group_of groups net))))))
    (λ is_not. refl)

claims_from : (pins : List RawPin) (pin net : ℕ) → (is_input_net pins pin && is_inner (length pins) net) ≡ true → Claims pins pin net
claims_from pins pin net is =
    let parts = and_parts (is_input_net pins pin) (is_inner (length pins) net) is in
    (parts.0, leb-true (length pins) net parts.1)

claimed_own : (P : ℕ → ℕ → Type 0) (pins : List RawPin) (groups : List ℕ) (pin net : ℕ) (owners : List (Option ℕ))
    → (Claims pins pin net → P (group_of groups net) pin) → AllOwn P owners → AllOwn P (claimed pins groups pin net owners)
claimed_own P pins groups pin net owners new all =
    cond_both (is_input_net pins pin && is_inner (length pins) net) (set_owner groups pin net owners) owners (AllOwn P)
    (λ is group owner there.
    elim (set_was owners (group_of groups net) group (Some (first_of pin (owner_in (slice_get owners (group_of groups net))))) (Some owner) there) [
      | inl old ↦ all group owner old
      | inr set ↦
          let owner_is : owner ≡ first_of pin (owner_in (slice_get owners (group_of groups net))) =
          same_Some owner (first_of pin (owner_in (slice_get owners (group_of groups net)))) set.1 in
          subst (λ (g : ℕ). P g owner) (sym set.0)
          (elim (first_was pin (slice_get owners (group_of groups net))) [
            | inl own ↦ subst (P (group_of groups net)) (sym (owner_is ∙ own)) (new (claims_from pins pin net is))
            | inr was ↦ all (group_of groups net) owner (was ∙ ap (λ (n : ℕ). Some (Some n)) (sym owner_is))
          ])
    ])
    (λ is_not. all)

claimed_kept : (pins : List RawPin) (groups : List ℕ) (pin net : ℕ) (owners : List (Option ℕ)) (group by : ℕ) → HasBy owners group by
    → HasBy (claimed pins groups pin net owners) group by
claimed_kept pins groups pin net owners group by has =
    cond_both (is_input_net pins pin && is_inner (length pins) net) (set_owner groups pin net owners) owners
    (λ (os : List (Option ℕ)). HasBy os group by)
    (λ is. elim (cases_eq group (group_of groups net)) [
      | inl same ↦
          let at : slice_get owners (group_of groups net) ≡ Some (Some has.0) = ap (slice_get owners) (sym same) ∙ has.1 in
          let lower : min pin has.0 ≤ by = let le = has.2 in omega (arith, le) in (
            min pin has.0,
            ap (slice_get (set_owner groups pin net owners)) same
                ∙ at_set owners (group_of groups net) (Some (first_of pin (owner_in (slice_get owners (group_of groups net)))))
                (slice_get_within owners (group_of groups net) (Some has.0) at)
                ∙ ap (λ (found : Option (Option ℕ)). Some (Some (first_of pin (owner_in found)))) at,
            lower,
          )
      | inr apart ↦ (
        has.0,
        at_other owners (group_of groups net) group (Some (first_of pin (owner_in (slice_get owners (group_of groups net))))) apart ∙ has.1,
        has.2,
      )
    ])
    (λ is_not. has)

claimed_has : (pins : List RawPin) (groups : List ℕ) (pin net : ℕ) (owners : List (Option ℕ)) → Claims pins pin net
    → group_of groups net < length owners → HasBy (claimed pins groups pin net owners) (group_of groups net) pin
claimed_has pins groups pin net owners claims within =
    subst (λ (os : List (Option ℕ)). HasBy os (group_of groups net) pin)
    (sym (cond-true (is_input_net pins pin && is_inner (length pins) net) (set_owner groups pin net owners) owners
    (and_from (is_input_net pins pin) (is_inner (length pins) net) claims.0 (le-leb (length pins) net claims.1)))) (
      first_of pin (owner_in (slice_get owners (group_of groups net))),
      at_set owners (group_of groups net) (Some (first_of pin (owner_in (slice_get owners (group_of groups net))))) within,
      first_low pin (slice_get owners (group_of groups net)),
    )

-- the claims of a device
abbrev twice : List RawPin → List ℕ → RawDevice → List (Option ℕ) → List (Option ℕ)
twice pins groups device owners = claimed pins groups device.source device.drain (claimed pins groups device.drain device.source owners)

length-claimed_by : (pins : List RawPin) (groups : List ℕ) (device : RawDevice) (owners : List (Option ℕ))
    → length (claimed_by pins groups device owners) ≡ length owners
length-claimed_by pins groups device owners =
    cond_both (is_resistor device) (twice pins groups device owners) owners (λ (os : List (Option ℕ)). length os ≡ length owners)
    (λ is.
    length-claimed pins groups device.source device.drain (claimed pins groups device.drain device.source owners)
    ∙ length-claimed pins groups device.drain device.source owners)
    (λ is_not. refl)

-- what a device's claims give to the owners
pub record GivesOwners (P : ℕ → ℕ → Type 0) (pins : List RawPin) (groups : List ℕ) (device : RawDevice) : Type 0 where
  pub drain : has_gate device.kind ≡ false → Claims pins device.drain device.source → P (group_of groups device.source) device.drain
  pub source : has_gate device.kind ≡ false → Claims pins device.source device.drain → P (group_of groups device.drain) device.source

by_own : (P : ℕ → ℕ → Type 0) (pins : List RawPin) (groups : List ℕ) (device : RawDevice) (owners : List (Option ℕ))
    → GivesOwners P pins groups device → AllOwn P owners → AllOwn P (claimed_by pins groups device owners)
by_own P pins groups device owners gives all =
    cond_both (is_resistor device) (twice pins groups device owners) owners (AllOwn P)
    (λ is.
    claimed_own P pins groups device.source device.drain (claimed pins groups device.drain device.source owners)
    (gives.source (not-true (has_gate device.kind) is))
    (claimed_own P pins groups device.drain device.source owners (gives.drain (not-true (has_gate device.kind) is)) all))
    (λ is_not. all)

pub after_own : (P : ℕ → ℕ → Type 0) (pins : List RawPin) (groups : List ℕ) (devices : List RawDevice) (owners : List (Option ℕ))
    → ((k : ℕ) (device : RawDevice) → slice_get devices k ≡ Some device → GivesOwners P pins groups device) → AllOwn P owners
    → AllOwn P (owners_after pins groups owners devices)
after_own P pins groups [] owners each all = all
after_own P pins groups (device ∷ devices) owners each all =
    after_own P pins groups devices (claimed_by pins groups device owners) (λ k next there. each (suc k) next there)
    (by_own P pins groups device owners (each 0 device refl) all)

by_kept : (pins : List RawPin) (groups : List ℕ) (device : RawDevice) (owners : List (Option ℕ)) (group by : ℕ) → HasBy owners group by
    → HasBy (claimed_by pins groups device owners) group by
by_kept pins groups device owners group by has =
    cond_both (is_resistor device) (twice pins groups device owners) owners (λ (os : List (Option ℕ)). HasBy os group by)
    (λ is.
    claimed_kept pins groups device.source device.drain (claimed pins groups device.drain device.source owners) group by
    (claimed_kept pins groups device.drain device.source owners group by has))
    (λ is_not. has)

after_kept : (pins : List RawPin) (groups : List ℕ) (devices : List RawDevice) (owners : List (Option ℕ)) (group by : ℕ) → HasBy owners group by
    → HasBy (owners_after pins groups owners devices) group by
after_kept pins groups [] owners group by has = has
after_kept pins groups (device ∷ devices) owners group by has =
    after_kept pins groups devices (claimed_by pins groups device owners) group by (by_kept pins groups device owners group by has)

by_twice : (pins : List RawPin) (groups : List ℕ) (device : RawDevice) (owners : List (Option ℕ)) (group by : ℕ) → has_gate device.kind ≡ false
    → HasBy (twice pins groups device owners) group by → HasBy (claimed_by pins groups device owners) group by
by_twice pins groups device owners group by gateless has =
    subst (λ (os : List (Option ℕ)). HasBy os group by)
    (sym (cond-true (is_resistor device) (twice pins groups device owners) owners (not_from_false (has_gate device.kind) gateless))) has

-- after a device's claims its nets' groups have owners
pub record HaveOwners (pins : List RawPin) (groups : List ℕ) (device : RawDevice) (owners : List (Option ℕ)) : Type 0 where
  pub drain : Claims pins device.drain device.source → HasBy owners (group_of groups device.source) device.drain
  pub source : Claims pins device.source device.drain → HasBy owners (group_of groups device.drain) device.source

by_has : (pins : List RawPin) (groups : List ℕ) (device : RawDevice) (owners : List (Option ℕ)) → has_gate device.kind ≡ false
    → group_of groups device.drain < length owners → group_of groups device.source < length owners
    → HaveOwners pins groups device (claimed_by pins groups device owners)
by_has pins groups device owners gateless drain source = record {
  drain = λ claims.
      by_twice pins groups device owners (group_of groups device.source) device.drain gateless
      (claimed_kept pins groups device.source device.drain (claimed pins groups device.drain device.source owners) (group_of groups device.source) device.drain
      (claimed_has pins groups device.drain device.source owners claims source));
  source = λ claims.
      by_twice pins groups device owners (group_of groups device.drain) device.source gateless
      (claimed_has pins groups device.source device.drain (claimed pins groups device.drain device.source owners) claims
      (subst (λ (n : ℕ). group_of groups device.drain < n) (sym (length-claimed pins groups device.drain device.source owners)) drain));
}

pub after_has : (pins : List RawPin) (groups : List ℕ) (devices : List RawDevice) (owners : List (Option ℕ)) (k : ℕ) (device : RawDevice)
    → slice_get devices k ≡ Some device → has_gate device.kind ≡ false
    → group_of groups device.drain < length owners → group_of groups device.source < length owners
    → HaveOwners pins groups device (owners_after pins groups owners devices)
after_has pins groups [] owners k device there gateless drain source = absurd (none-some device there)
after_has pins groups (first ∷ devices) owners zero device there gateless drain source =
    let has : HaveOwners pins groups device (claimed_by pins groups device owners) = by_has pins groups device owners gateless drain source in
    let at : claimed_by pins groups first owners ≡ claimed_by pins groups device owners =
    ap (λ (d : RawDevice). claimed_by pins groups d owners) (same_Some first device there) in
    subst (λ (os : List (Option ℕ)). HaveOwners pins groups device (owners_after pins groups os devices)) (sym at)
    (record {
      drain = λ claims.
          after_kept pins groups devices (claimed_by pins groups device owners) (group_of groups device.source) device.drain (has.drain claims);
      source = λ claims.
          after_kept pins groups devices (claimed_by pins groups device owners) (group_of groups device.drain) device.source (has.source claims);
    })
after_has pins groups (first ∷ devices) owners (suc k) device there gateless drain source =
    after_has pins groups devices (claimed_by pins groups first owners) k device there gateless
    (subst (λ (n : ℕ). group_of groups device.drain < n) (sym (length-claimed_by pins groups first owners)) drain)
    (subst (λ (n : ℕ). group_of groups device.source < n) (sym (length-claimed_by pins groups first owners)) source)

-- groups that no one has claimed
pub replicate_none : (count k : ℕ) (pin : ℕ) → slice_get (replicate count None) k ≡ Some (Some pin) → ⊥
replicate_none zero k pin there = none-some (Some pin) there
replicate_none (suc count) zero pin there = none-some pin (same_Some None (Some pin) there)
replicate_none (suc count) (suc k) pin there = replicate_none count k pin there
