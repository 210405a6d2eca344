-- Where claims stand, they are true.
use Rattle.std.proofs.Common.{◌≡◌, ℕ, zero, suc, ◌<◌, List, [], ◌∷◌, length, Bool, true, false, inl, refl}
use Rattle.std.proofs.Common.{sym, ◌∙◌, ap, subst, arith, Some}
use Rattle.std.specs.Prelude.{replicate, slice_get, IsSomeAnd, Option, None}
use Rattle.std.proofs.lemmas.Option.{slice_get_within}
use Rattle.ca_net.specs.declared.trit.Trit.{Trit}
use Rattle.ca_net.specs.declared.trit.Trit.TheVariants.{X}
use Rattle.ca_net.specs.Trit.{IsBelow}
use Rattle.ca_net.specs.State.{value_at}
use Rattle.ca_flat.specs.declared.chip_defect.ChipDefect.{ChipDefect}
use Rattle.ca_flat.specs.declared.token.Token.{Token}
use Rattle.ca_flat.specs.Chip.{Chip}
use Rattle.ca_flat.specs.Pair.{bit_count}
use Rattle.ca_flat.specs.Codes.{IsWholeCode}
use Rattle.ca_flat.specs.Waves.{IsFlatChip}
use Rattle.ca_flat.proofs.Codes.{whole_is_ruled_out_lem}
use Rattle.ca_flat.proofs.Filled.{detected_is_exposable_lem}
use Rattle.ca_claim.specs.declared.claim.Claim.{Claim}
use Rattle.ca_claim.specs.declared.claim.Claim.TheVariants.{Credited, Unexposable, Untestable, Aborted}
use Rattle.ca_flat.specs.Detection.{trits_of, Detects, IsUntestable, IsExposableIn, IsFirstDetection}
use Rattle.ca_claim.specs.Stands.{Stands, StandsAt}
use Rattle.ca_claim.specs.Laws.{HasClaim, StandingClaimsAreTrue}
use Rattle.ca_read_code.proofs.CodeLemmas.{claimed_codes_are_codes_lem}

known_bits : (pair : List Bool) (bit : ℕ) → bit < length pair → value_at (trits_of pair) bit ≡ X → ⊥
known_bits [] bit within = absurd (omega arith)
known_bits (true ∷ pair) zero within = λ e. cc
known_bits (false ∷ pair) zero within = λ e. cc
known_bits (value ∷ pair) (suc bit) within = known_bits pair bit (omega arith)

unset_below : (count : ℕ) (whole : List Trit) (n : ℕ) → IsBelow (value_at (replicate count X) n) (value_at whole n)
unset_below count whole n = inl (unset_at count n)
  where
    unset_at : (count n : ℕ) → value_at (replicate count X) n ≡ X
    unset_at zero n = refl
    unset_at (suc count) zero = refl
    unset_at (suc count) (suc n) = unset_at count n

-- a whole code shows that no definite pair detects the defect
whole_is_untestable : (chip : Chip) (defect : ChipDefect) (code : List Token) → IsWholeCode chip defect code
    → IsUntestable chip defect
whole_is_untestable chip defect code whole pair sized = whole_is_ruled_out_lem chip defect code whole (trits_of pair) (record {
  above = λ n. unset_below (bit_count chip) (trits_of pair) n;
  sets_all = λ bit within. known_bits pair bit (omega arith);
})

-- one entry at a place
pub one_entry : {T : Type 0} (xs : List T) (place : ℕ) (one other : T) → slice_get xs place ≡ Some one
    → slice_get xs place ≡ Some other → one ≡ other
one_entry xs place one other here there = let e : Some one ≡ Some other = sym here ∙ there in cc

-- an entry at a place with a property has it
some_entry : {T : Type 0} (o : Option T) (P : T → Type 0) (Q : Type 0) → IsSomeAnd o P → ((x : T) → P x → Q) → Q
some_entry None P Q here each = absurd here
some_entry (Some x) P Q here each = each x here

-- a defect that a listed pair detects can be exposed
detected : (chip : Chip) (rank : ℕ → ℕ) (defect : ChipDefect) (pairs : List (List Bool)) (pair output : ℕ)
    → IsFlatChip chip rank defect → IsFirstDetection chip defect pairs pair output → (IsExposableIn chip defect → ⊥) → ⊥
detected chip rank defect pairs pair output is first not_exposable =
    some_entry (slice_get pairs pair) (Detects chip defect) ⊥ first.first_pair.here (λ bits shown.
    detected_is_exposable_lem chip rank defect (trits_of bits) shown.output is
    (is.chip_is.observed shown.output shown.observed) shown.detects not_exposable)

module _ (chip : Chip) (rank : ℕ → ℕ) (pairs : List (List Bool)) (budget : ℕ) (defect : ChipDefect)
    (is : IsFlatChip chip rank defect) where
  -- only a claim that it is unexposable stands of an unexposable defect
  only_unexposable : (claim : Claim) → Stands chip pairs budget defect claim → (IsExposableIn chip defect → ⊥)
      → claim ≡ Unexposable
  only_unexposable (Credited pair output) stands none = absurd (detected chip rank defect pairs pair output is stands none)
  only_unexposable Unexposable stands none = refl
  only_unexposable (Untestable code) stands none = absurd (none stands.exposable)
  only_unexposable (Aborted code) stands none = absurd (none stands.exposable)

-- the claim that is at the place stands
stands_there : (chip : Chip) (defects : List ChipDefect) (pairs : List (List Bool)) (budget : ℕ) (claims : List Claim)
    (place : ℕ) (defect : ChipDefect) (claim : Claim) → StandsAt chip defects pairs budget claims place
    → slice_get defects place ≡ Some defect → slice_get claims place ≡ Some claim → Stands chip pairs budget defect claim
stands_there chip defects pairs budget claims place defect claim at is_defect is_claim =
    subst (λ d. Stands chip pairs budget d claim) (one_entry defects place at.defect defect at.is_defect is_defect)
    (subst (λ c. Stands chip pairs budget at.defect c) (one_entry claims place at.claim claim at.is_claim is_claim) at.stands)

pub standing_claims_are_true_lem : StandingClaimsAreTrue
standing_claims_are_true_lem chip rank defects pairs budget claims flat one_each stand = record {
  one_each = one_each;
  credited = λ place pair output defect has. here place defect (Credited pair output) has;
  unexposable = λ place defect has. here place defect Unexposable has;
  named_unexposable = λ place defect is_defect none.
      let within : place < length claims = subst (λ n. place < n) (sym one_each) (slice_get_within defects place defect is_defect) in
      let at = stand place within in
      let is = one_entry defects place at.defect defect at.is_defect is_defect in
      let stands = subst (λ d. Stands chip pairs budget d at.claim) is at.stands in
      record {
        is_defect = is_defect;
        is_claim = at.is_claim ∙ ap Some (only_unexposable chip rank pairs budget defect (flat place defect is_defect) at.claim stands none);
      };
  untestable = λ place defect code has.
      let stands = here place defect (Untestable code) has in
      whole_is_untestable chip defect code
      ((claimed_codes_are_codes_lem chip rank defect code (flat place defect has.is_defect)).whole stands.whole);
  aborted = λ place defect code has.
      let stands = here place defect (Aborted code) has in
      record {
        exposable = stands.exposable;
        undetected = stands.undetected;
        spent = (claimed_codes_are_codes_lem chip rank defect code (flat place defect has.is_defect)).spent budget stands.spent;
      };
}
  where
    here : (place : ℕ) (defect : ChipDefect) (claim : Claim) → HasClaim defects claims place defect claim
        → Stands chip pairs budget defect claim
    here place defect claim has = stands_there chip defects pairs budget claims place defect claim
        (stand place (slice_get_within claims place claim has.is_claim)) has.is_defect has.is_claim
