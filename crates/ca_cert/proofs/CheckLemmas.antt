-- A claim stands exactly where it does so by the first detection.
use Rattle.std.proofs.Common.{◌≡◌, ℕ, zero, suc, ◌+◌, ◌<◌, inl, inr, List, [], ◌∷◌, length, Bool, true, false}
use Rattle.std.proofs.Common.{refl, sym, ◌∙◌, ap, subst, arith, Some, None, Option, take, take_all, get_or}
use Rattle.std.specs.Prelude.{slice_get, slice_index_or, IsSomeAnd, ◌↔◌, ◌⊎◌, IsTrue, Result, Ok, Err, IfOk}
use Rattle.std.specs.List.{All}
use Rattle.std.proofs.lemmas.Option.{slice_get_within, slice_get_read}
use native.Mathlib.Decide.{ℕ_discrete}
use Rattle.ca_base.specs.First.{IsFirst}
use Rattle.ca_flat.specs.declared.chip_defect.ChipDefect.{ChipDefect}
use Rattle.ca_flat.specs.Chip.{Chip}
use Rattle.ca_flat.specs.Pair.{DetectsAt}
use Rattle.ca_claim.specs.declared.claim.Claim.{Claim}
use Rattle.ca_claim.specs.declared.claim.Claim.TheVariants.{Credited, Unexposable, Untestable, Aborted}
use Rattle.ca_flat.specs.Detection.{trits_of, Detects, NoneDetects, IsFirstOutput, IsFirstDetection, IsExposableIn}
use Rattle.ca_claim.specs.Stands.{Stands, StandsAt, StandBelow}
use Rattle.ca_claim.proofs.TrueLemmas.{one_entry}
use Rattle.ca_cert.specs.declared.detection.Detection.{Detection}
use Rattle.ca_cert.specs.code.Found.{asks, IsFoundTo, AreFound}
use Rattle.ca_flat.specs.declared.token.Token.{Token}
use Rattle.ca_flat.specs.Codes.{IsSpentBy}
use Rattle.ca_read_code.specs.ClaimedCode.{claim_rules}
use Rattle.ca_read_code.specs.Examined.{Examined, with_pair, IsSameAim}
use Rattle.ca_cert.specs.Tested.{with_aim}
use Rattle.ca_cert.specs.code.Standing.{StandsBy}

-- an entry at a place with a property has it
some_entry : {T : Type 0} (o : Option T) (P : T → Type 0) (Q : Type 0) → IsSomeAnd o P → ((x : T) → o ≡ Some x → P x → Q) → Q
some_entry None P Q here each = absurd here
some_entry (Some x) P Q here each = each x refl here

-- where the property fails for all before a place, what has it is not before
before_fails : {T : Type 0} (P : T → Type 0) (xs : List T) (k n : ℕ) (x : T) → slice_get xs k ≡ Some x → P x → k < n
    → All (λ y. P y → ⊥) (take n xs) → ⊥
before_fails P [] k n x is holds lt none = absurd (let clash : None ≡ Some x = is in cc)
before_fails P (y ∷ xs) k zero x is holds lt none = absurd (omega arith)
before_fails P (y ∷ xs) zero (suc n) x is holds lt none =
    let same : y ≡ x = (let e : Some y ≡ Some x = is in cc) in none 0 y (omega arith) (subst P (sym same) holds)
before_fails P (y ∷ xs) (suc k) (suc n) x is holds lt none =
    before_fails P xs k n x is holds (omega arith) (λ i d below. none (suc i) d (omega arith))

-- the first place is one
first_once : {T : Type 0} (P : T → Type 0) (xs : List T) (a b : ℕ) → IsFirst P xs a → IsFirst P xs b → a ≡ b
first_once P xs a b first other = elim (ℕ_discrete a b) [
  | yes same ↦ same
  | no apart ↦
      let far : a ≡ b → ⊥ = apart in
      elim (below a b far) [
        | inl lt ↦ absurd (some_entry (slice_get xs a) P ⊥ first.here (λ x is holds. before_fails P xs a b x is holds lt other.none_before))
        | inr lt ↦ absurd (some_entry (slice_get xs b) P ⊥ other.here (λ x is holds. before_fails P xs b a x is holds lt first.none_before))
      ]
]
  where
    below : (a b : ℕ) → (a ≡ b → ⊥) → (a < b) ⊎ (b < a)
    below zero zero apart = absurd (apart refl)
    below zero (suc b) apart = inl (omega arith)
    below (suc a) zero apart = inr (omega arith)
    below (suc a) (suc b) apart = elim (below a b (λ e. apart (ap suc e))) [
      | inl lt ↦ inl (omega arith)
      | inr lt ↦ inr (omega arith)
    ]

-- two first detections of a defect are one
detection_once : (chip : Chip) (defect : ChipDefect) (pairs : List (List Bool)) (pair output : ℕ) (found : Detection)
    → IsFirstDetection chip defect pairs found.pair found.output → IsFirstDetection chip defect pairs pair output
    → Some found ≡ Some (record { pair = pair; output = output })
detection_once chip defect pairs pair output found one other =
    let same = first_once (Detects chip defect) pairs found.pair pair one.first_pair other.first_pair in
    some_entry (slice_get pairs found.pair) (IsFirstOutput chip defect found.output)
    (Some found ≡ Some (record { pair = pair; output = output })) one.first_output (λ bits is first.
    some_entry (slice_get pairs pair) (IsFirstOutput chip defect output)
    (Some found ≡ Some (record { pair = pair; output = output })) other.first_output (λ others are second.
    let bits_same = one_entry pairs pair bits others (ap (slice_get pairs) (sym same) ∙ is) are in
    let outputs = first_once (DetectsAt chip defect (trits_of bits)) chip.outputs found.output output first
    (subst (IsFirstOutput chip defect output) (sym bits_same) second) in
    ap (λ p. Some (record { pair = p; output = found.output })) same
    ∙ ap (λ o. Some (record { pair = pair; output = o })) outputs))

-- a first detection is one
is_detected : (chip : Chip) (defect : ChipDefect) (pairs : List (List Bool)) (pair output : ℕ)
    → IsFirstDetection chip defect pairs pair output → NoneDetects chip defect (take (length pairs) pairs) → ⊥
is_detected chip defect pairs pair output first none =
    some_entry (slice_get pairs pair) (Detects chip defect) ⊥ first.first_pair.here (λ bits is holds.
    before_fails (Detects chip defect) pairs pair (length pairs) bits is holds (slice_get_within pairs pair bits is) none)

all_pairs : (chip : Chip) (defect : ChipDefect) (pairs : List (List Bool)) → NoneDetects chip defect (take (length pairs) pairs)
    → NoneDetects chip defect pairs
all_pairs chip defect pairs none = subst (NoneDetects chip defect) (take_all (length pairs) pairs (omega arith)) none

some_pairs : (chip : Chip) (defect : ChipDefect) (pairs : List (List Bool)) → NoneDetects chip defect pairs
    → NoneDetects chip defect (take (length pairs) pairs)
some_pairs chip defect pairs none = subst (NoneDetects chip defect) (sym (take_all (length pairs) pairs (omega arith))) none

credited_is : (chip : Chip) (defect : ChipDefect) (pairs : List (List Bool)) (pair output : ℕ) (found : Option Detection)
    → IsFoundTo chip defect pairs (length pairs) found → IsFirstDetection chip defect pairs pair output
    → found ≡ Some (record { pair = pair; output = output })
credited_is chip defect pairs pair output None is first = absurd (is_detected chip defect pairs pair output first is)
credited_is chip defect pairs pair output (Some found) is first = detection_once chip defect pairs pair output found is first

undetected_is : (chip : Chip) (defect : ChipDefect) (pairs : List (List Bool)) (found : Option Detection)
    → IsFoundTo chip defect pairs (length pairs) found → NoneDetects chip defect pairs → found ≡ None
undetected_is chip defect pairs None is none = refl
undetected_is chip defect pairs (Some found) is none =
    absurd (is_detected chip defect pairs found.pair found.output is (some_pairs chip defect pairs none))

-- a claim stands exactly where it does by what was found
pub stands_is : (chip : Chip) (defect : ChipDefect) (pairs : List (List Bool)) (budget : ℕ) (found : Option Detection) (claim : Claim)
    → (asks claim ≡ true → IsFoundTo chip defect pairs (length pairs) found)
    → StandsBy chip found budget defect claim ↔ Stands chip pairs budget defect claim
stands_is chip defect pairs budget found (Credited pair output) is = (
  λ by. subst (IsFoundTo chip defect pairs (length pairs)) by (is refl),
  λ first. credited_is chip defect pairs pair output found (is refl) first,
)
stands_is chip defect pairs budget found Unexposable is = (λ by. by, λ by. by)
stands_is chip defect pairs budget found (Untestable code) is = (λ by. by, λ by. by)
stands_is chip defect pairs budget found (Aborted code) is = (
  λ by. record {
    exposable = by.exposable;
    undetected = all_pairs chip defect pairs (subst (IsFoundTo chip defect pairs (length pairs)) by.undetected (is refl));
    spent = by.spent;
  },
  λ stands. record {
    undetected = undetected_is chip defect pairs found (is refl) stands.undetected;
    exposable = stands.exposable;
    spent = stands.spent;
  },
)

-- what is known of the claim at a place
module _ (chip : Chip) (defects : List ChipDefect) (pairs : List (List Bool)) (budget : ℕ) (claims : List Claim) (place : ℕ)
    (defect : ChipDefect) (is_defect : slice_get defects place ≡ Some defect) (claim : Claim)
    (is_claim : slice_get claims place ≡ Some claim) (all : List (Option Detection))
    (are : AreFound chip defects claims pairs (length pairs) all) (now : Chip) (same : now ≡ chip) (entry : Option Detection)
    (entry_is : entry ≡ slice_index_or all place None) (b : Bool)
    (test : IsTrue b ↔ StandsBy now entry budget defect claim) where
  claim_is : IsTrue b ↔ Stands chip pairs budget defect claim
  claim_is =
      let by = stands_is chip defect pairs budget (slice_index_or all place None) claim
      (λ asked. are.each place defect claim is_defect is_claim asked) in
      let here = subst (λ c. IsTrue b ↔ StandsBy c (slice_index_or all place None) budget defect claim) same
      (subst (λ e. IsTrue b ↔ StandsBy now e budget defect claim) entry_is test) in
      (λ yes. by.0 (here.0 yes), λ stands. here.1 (by.1 stands))

  -- the claim doesn't stand
  pub claim_falls : b ≡ false → StandsAt chip defects pairs budget claims place → ⊥
  claim_falls is_false at =
      let stands = subst (λ d. Stands chip pairs budget d claim) (one_entry defects place at.defect defect at.is_defect is_defect)
      (subst (λ c. Stands chip pairs budget at.defect c) (one_entry claims place at.claim claim at.is_claim is_claim) at.stands) in
      let clash : true ≡ false = sym (claim_is.1 stands) ∙ is_false in cc

  -- it stands, as all before it do
  pub claim_more : b ≡ true → StandBelow chip defects pairs budget claims place → StandBelow chip defects pairs budget claims (place + 1)
  claim_more is_true before other below = elim (ℕ_discrete other place) [
    | yes at ↦ subst (StandsAt chip defects pairs budget claims) (sym at)
        (record { defect = defect; is_defect = is_defect; claim = claim; is_claim = is_claim; stands = claim_is.0 is_true })
    | no apart ↦ before other (let far : other ≡ place → ⊥ = apart in omega arith)
  ]

-- the reading is of the defect that was aimed at
pub aimed_is : (first mid new : Examined) (defect : ChipDefect) → IsSameAim mid new → mid ≡ with_aim first defect
    → new ≡ with_pair (with_aim first defect) new.pair
aimed_is first mid new defect same is = same ∙ ap (λ m. with_pair m new.pair) is

-- an aborted search, where nothing detects the defect and it can be exposed
pub aborted_by : {E : Type 0} (answer : Result Bool E) (chip : Chip) (found : Option Detection) (budget : ℕ) (defect : ChipDefect)
    (code : List Token) → found ≡ None → IsExposableIn chip defect
    → IfOk answer (λ spent. IsTrue spent ↔ IsSpentBy (claim_rules chip defect) chip budget code)
    → IfOk answer (λ stands. IsTrue stands ↔ StandsBy chip found budget defect (Aborted code))
aborted_by (Ok stands) chip found budget defect code none exposable spent = (
  λ yes. record { undetected = none; exposable = exposable; spent = spent.0 yes },
  λ by. spent.1 by.spent,
)
aborted_by (Err e) chip found budget defect code none exposable spent = spent

-- what was read of a list
pub read_of : {T : Type 0} (xs ys : List T) (place : ℕ) (x : T) → xs ≡ ys → place < length ys → x ≡ get_or xs place x
    → slice_get ys place ≡ Some x
read_of xs ys place x same within is = subst (λ l. slice_get l place ≡ Some x) same
    (slice_get_read xs (length xs) place x refl (subst (λ l. place < length l) (sym same) within) is)
