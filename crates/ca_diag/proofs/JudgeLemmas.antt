-- What the ends of the good and the faulty chip say of a log.
use Rattle.std.proofs.Common.{◌≡◌, ◌≢◌, ℕ, ◌+◌, ◌<◌, ◌≤◌, List, [], ◌∷◌, ◌++◌, ◌∙◌}
use Rattle.std.proofs.Common.{length, take, ap, arith, refl, sym, subst, inl, inr}
use Rattle.std.specs.Prelude.{Option, Some, None, slice_get, slice_index}
use Rattle.std.proofs.lemmas.List.{take_more}
use Rattle.std.proofs.lemmas.Option.{slice_get_within, get_or_from_slice_get}
use native.Mathlib.Decide.{ℕ_discrete}
use Rattle.ca_net.specs.declared.trit.Trit.{Trit}
use Rattle.ca_net.specs.declared.trit.Trit.TheVariants.{Zero, One, X}
use Rattle.ca_cell.specs.Exposes.{opposite_of}
use Rattle.ca_flat.specs.declared.chip_defect.ChipDefect.{ChipDefect}
use Rattle.ca_flat.specs.Chip.{Chip}
use Rattle.ca_credit.specs.Defects.{Task, IsDefectAt}
use Rattle.ca_credit.specs.Detection.{IsNetEnd}
use Rattle.ca_diag.specs.Candidates.{AreSoMany}
use Rattle.ca_diag.specs.code.Judged.{FailsAt, PassesAt, prediction_of, IsPrediction, IsJudged}

module _ (chip : Chip) (defect : ChipDefect) (aimed : Option ChipDefect) (bits : List Trit) (output : ℕ) (good faulty : Trit)
    (at : aimed ≡ Some defect) (good_is : IsNetEnd chip None bits (slice_index chip.outputs output) good)
    (faulty_is : IsNetEnd chip aimed bits (slice_index chip.outputs output) faulty) where
  faulty_here : IsNetEnd chip (Some defect) bits (slice_index chip.outputs output) faulty
  faulty_here = subst (λ (o : Option ChipDefect). IsNetEnd chip o bits (slice_index chip.outputs output) faulty) at faulty_is

  -- a fail is predicted where the ends are opposite, and a pass where they are one
  fails_are : FailsAt chip defect bits output → (good ≢ X) × (faulty ≡ opposite_of good)
  fails_are fails =
      let known = (good_is fails.value).1 fails.good in
      let other = (faulty_here (opposite_of fails.value)).1 fails.faulty in
      ((λ is. known.0 (sym known.1 ∙ is)), other.1 ∙ ap opposite_of (sym known.1))

  passes_are : PassesAt chip defect bits output → (good ≢ X) × (faulty ≡ good)
  passes_are passes =
      let known = (good_is passes.value).1 passes.good in
      let other = (faulty_here passes.value).1 passes.faulty in
      ((λ is. known.0 (sym known.1 ∙ is)), other.1 ∙ sym known.1)

  fails_by : good ≢ X → opposite_of good ≢ X → faulty ≡ opposite_of good → FailsAt chip defect bits output
  fails_by known opposite other =
      record { value = good; good = (good_is good).0 (known, refl); faulty = (faulty_here (opposite_of good)).0 (opposite, other) }

  passes_by : good ≢ X → faulty ≡ good → PassesAt chip defect bits output
  passes_by known same = record { value = good; good = (good_is good).0 (known, refl); faulty = (faulty_here good).0 (known, same) }

  by_values : (g f : Trit) → good ≡ g → faulty ≡ f → IsPrediction chip defect bits output (prediction_of g f)
  by_values Zero Zero g f = (
    λ fails. let clash : Zero ≡ One = sym f ∙ (fails_are fails).1 ∙ ap opposite_of g in cc,
    passes_by (λ is. let clash : Zero ≡ X = sym g ∙ is in cc) (f ∙ sym g),
  )
  by_values Zero One g f = (
    fails_by (λ is. let clash : Zero ≡ X = sym g ∙ is in cc) (λ is. let clash : One ≡ X = sym (ap opposite_of g) ∙ is in cc)
        (f ∙ sym (ap opposite_of g)),
    λ passes. let clash : One ≡ Zero = sym f ∙ (passes_are passes).1 ∙ g in cc,
  )
  by_values One Zero g f = (
    fails_by (λ is. let clash : One ≡ X = sym g ∙ is in cc) (λ is. let clash : Zero ≡ X = sym (ap opposite_of g) ∙ is in cc)
        (f ∙ sym (ap opposite_of g)),
    λ passes. let clash : Zero ≡ One = sym f ∙ (passes_are passes).1 ∙ g in cc,
  )
  by_values One One g f = (
    λ fails. let clash : One ≡ Zero = sym f ∙ (fails_are fails).1 ∙ ap opposite_of g in cc,
    passes_by (λ is. let clash : One ≡ X = sym g ∙ is in cc) (f ∙ sym g),
  )
  by_values X f is other = (λ fails. (fails_are fails).0 is, λ passes. (passes_are passes).0 is)
  by_values Zero X g f = (
    λ fails. let clash : X ≡ One = sym f ∙ (fails_are fails).1 ∙ ap opposite_of g in cc,
    λ passes. let clash : X ≡ Zero = sym f ∙ (passes_are passes).1 ∙ g in cc,
  )
  by_values One X g f = (
    λ fails. let clash : X ≡ Zero = sym f ∙ (fails_are fails).1 ∙ ap opposite_of g in cc,
    λ passes. let clash : X ≡ One = sym f ∙ (passes_are passes).1 ∙ g in cc,
  )

  pub predicted_by : IsPrediction chip defect bits output (prediction_of good faulty)
  predicted_by = by_values good faulty refl refl

-- so many of two lists, one after the other
pub count_append : {T : Type 0} (P : T → Type 0) (xs ys : List T) (a b : ℕ) → AreSoMany P xs a → AreSoMany P ys b
    → AreSoMany P (xs ++ ys) (a + b)
count_append P [] ys a b none some =
    let same : b ≡ a + b = omega (arith, none) in subst (AreSoMany P ys) same some
count_append P (x ∷ xs) ys a b (inl (has, others, is, rest)) some =
    inl (has, others + b, (let next = is in omega (arith, next)), count_append P xs ys others b rest some)
count_append P (x ∷ xs) ys a b (inr (hasnt, rest)) some = inr (hasnt, count_append P xs ys a b rest some)

-- no more than there are
pub count_few : {T : Type 0} (P : T → Type 0) (xs : List T) (a : ℕ) → AreSoMany P xs a → a ≤ length xs
count_few P [] a none = omega (arith, none)
count_few P (x ∷ xs) a (inl (has, others, is, rest)) = let few = count_few P xs others rest in omega (arith, few, is)
count_few P (x ∷ xs) a (inr (hasnt, rest)) = let few = count_few P xs a rest in omega (arith, few)

-- one more output that was logged
pub count_more : (P : ℕ → Type 0) (outputs : List ℕ) (k output count one : ℕ) → slice_get outputs k ≡ Some output
    → AreSoMany P (take k outputs) count → AreSoMany P (output ∷ []) one → AreSoMany P (take (k + 1) outputs) (count + one)
count_more P outputs k output count one at before here =
    subst (λ (xs : List ℕ). AreSoMany P xs (count + one))
    (sym (take_more outputs k output (slice_get_within outputs k output at)
    ∙ ap (λ (last : ℕ). take k outputs ++ last ∷ []) (get_or_from_slice_get outputs k output output at)))
    (count_append P (take k outputs) (output ∷ []) count one before here)

-- one more output that isn't against the defect, and none that is
pub none_more : (P : ℕ → Type 0) (count : ℕ) → ((k : ℕ) → k < count → ¬ (P k)) → ¬ (P count)
    → (k : ℕ) → k < count + 1 → ¬ (P k)
none_more P count before last k below has = elim (ℕ_discrete k count) [
  | yes e ↦ last (subst P e has)
  | no differ ↦ before k (let far : k ≢ count = differ in omega (arith, below, far)) has
]

module _ (old new : Task) (before after : List Trit) (aimed : Option ChipDefect) (outputs : List ℕ) (place : ℕ)
    (task_is : new ≡ old) (bits_are : after ≡ before) (aimed_is : aimed ≡ slice_get old.defects place) where
  -- what the waves say of the defect at a place
  pub by_waves : (answer : Option ℕ) → ((defect : ChipDefect) → aimed ≡ Some defect → IsJudged new.chip after outputs defect answer)
      → (defect : ChipDefect) → IsDefectAt old place defect → IsJudged old.chip before outputs defect answer
  by_waves answer judged defect at =
      subst (λ (task : Task). IsJudged task.chip before outputs defect answer) task_is
      (subst (λ (bits : List Trit). IsJudged new.chip bits outputs defect answer) bits_are (judged defect (aimed_is ∙ at)))
