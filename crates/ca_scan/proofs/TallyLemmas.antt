-- Tallies, as more is added; and takers.
use Rattle.std.proofs.Common.{◌≡◌, ℕ, zero, suc, ◌+◌, ◌<◌, ◌≤◌, List, [], ◌∷◌, ◌++◌, length, take, get_or}
use Rattle.std.proofs.Common.{refl, sym, ap, ◌∙◌, subst, arith, append_assoc}
use Rattle.std.specs.Prelude.{Option, Some, None, slice_set, if◌then◌else◌}
use Rattle.std.proofs.Math.Seq.{take-suc}
use Rattle.std.proofs.lemmas.List.{get_or-set_same, get_or-set_other}
use Rattle.std.proofs.lemmas.Bool.{ne_eqb, eq-eqb}
use native.Mathlib.Decide.{ℕ_discrete}
use Rattle.ca_scan.specs.Chain.{count_of}
use Rattle.ca_scan.specs.code.Kept.{up_to_three, tally_at, Counts, Adds, taker_at, SetsTaker}
use Rattle.ca_scan.proofs.CountLemmas.{count-append}

-- an empty place more at the end
pub one_more : {X : Type 0} (xs : List X) (d : X) (n : ℕ) → get_or (xs ++ d ∷ []) n d ≡ get_or xs n d
one_more [] d zero = refl
one_more [] d (suc n) = refl
one_more (x ∷ xs) d zero = refl
one_more (x ∷ xs) d (suc n) = one_more xs d n

pub counts_none : Counts [] []
unfolding count_of
counts_none n = refl

-- one more
up_more : (count : ℕ) → up_to_three count < 3 → up_to_three (count + 1) ≡ up_to_three count + 1
up_more count few = ap up_to_three (let same : count + 1 ≡ suc count = omega arith in same) ∙ by count few
  where
    by : (n : ℕ) → up_to_three n < 3 → up_to_three (suc n) ≡ up_to_three n + 1
    by zero few = refl
    by (suc zero) few = refl
    by (suc (suc zero)) few = refl
    by (suc (suc (suc n))) few = absurd (omega (arith, few))

up_full : (count : ℕ) → (up_to_three count < 3 → ⊥) → up_to_three (count + 1) ≡ up_to_three count
up_full count many = ap up_to_three (let same : count + 1 ≡ suc count = omega arith in same) ∙ by count many
  where
    by : (n : ℕ) → (up_to_three n < 3 → ⊥) → up_to_three (suc n) ≡ up_to_three n
    by zero many = absurd (many (omega arith))
    by (suc zero) many = absurd (many (omega arith))
    by (suc (suc zero)) many = absurd (many (omega arith))
    by (suc (suc (suc n))) many = refl

counted_same : (n number : ℕ) (numbers : List ℕ) → n ≡ number → count_of n (numbers ++ number ∷ []) ≡ count_of n numbers + 1
unfolding count_of
counted_same n number numbers same = count-append n numbers (number ∷ []) ∙ ap (λ k. count_of n numbers + k) (λ j. (if eq-eqb n number same j then 1 else 0) + 0)

counted_other : (n number : ℕ) (numbers : List ℕ) → (n ≡ number → ⊥) → count_of n (numbers ++ number ∷ []) ≡ count_of n numbers
unfolding count_of
counted_other n number numbers other =
    count-append n numbers (number ∷ []) ∙ ap (λ k. count_of n numbers + k) (λ j. (if ne_eqb n number other j then 1 else 0) + 0)
    ∙ (let same : count_of n numbers + 0 ≡ count_of n numbers = omega arith in same)

-- a number is added to a tally that has room for it
pub one_added : (old mid : List ℕ) (number : ℕ) → ((n : ℕ) → tally_at mid n ≡ tally_at old n) → number < length mid → tally_at mid number < 3
    → Adds (number ∷ []) old (slice_set mid number (tally_at mid number + 1))
one_added old mid number kept within few numbers counts n = elim (ℕ_discrete n number) [
  | yes same ↦
      let was : tally_at mid number ≡ up_to_three (count_of number numbers) = kept number ∙ counts number in
      let less : up_to_three (count_of number numbers) < 3 = subst (λ k. k < 3) was few in
      ap (tally_at (slice_set mid number (tally_at mid number + 1))) same
      ∙ get_or-set_same mid number (tally_at mid number + 1) 0 within
      ∙ ap (λ k. k + 1) was
      ∙ sym (up_more (count_of number numbers) less)
      ∙ sym (ap up_to_three (ap (λ m. count_of m (numbers ++ number ∷ [])) same ∙ counted_same number number numbers refl))
  | no other ↦
      get_or-set_other mid number n (tally_at mid number + 1) 0 other ∙ kept n ∙ counts n
      ∙ sym (ap up_to_three (counted_other n number numbers other))
]

pub none_added : (old mid : List ℕ) (number : ℕ) → ((n : ℕ) → tally_at mid n ≡ tally_at old n) → (tally_at mid number < 3 → ⊥) → Adds (number ∷ []) old mid
none_added old mid number kept many numbers counts n = elim (ℕ_discrete n number) [
  | yes same ↦
      let was : tally_at mid number ≡ up_to_three (count_of number numbers) = kept number ∙ counts number in
      let full : up_to_three (count_of number numbers) < 3 → ⊥ = λ few. many (subst (λ k. k < 3) (sym was) few) in
      ap (tally_at mid) same ∙ was ∙ sym (up_full (count_of number numbers) full)
      ∙ sym (ap up_to_three (ap (λ m. count_of m (numbers ++ number ∷ [])) same ∙ counted_same number number numbers refl))
  | no other ↦ kept n ∙ counts n ∙ sym (ap up_to_three (counted_other n number numbers other))
]

-- nothing is added
pub append_nil : (xs : List ℕ) → xs ++ [] ≡ xs
append_nil [] = refl
append_nil (x ∷ xs) = ap (λ ys. x ∷ ys) (append_nil xs)

pub adds_none : (old : List ℕ) → Adds [] old old
adds_none old numbers counts = subst (Counts old) (sym (append_nil numbers)) counts

-- first some and then others
pub adds_both : (first second old mid new : List ℕ) → Adds first old mid → Adds second mid new → Adds (first ++ second) old new
adds_both first second old mid new before after numbers counts =
    subst (Counts new) (append_assoc numbers first second) (after (numbers ++ first) (before numbers counts))

pub take_more : {X : Type 0} (xs : List X) (k : ℕ) (d : X) → k < length xs → take (k + 1) xs ≡ take k xs ++ get_or xs k d ∷ []
take_more xs k d lt = ap (λ n. take n xs) (let e : k + 1 ≡ suc k = omega arith in e) ∙ take-suc xs k d lt

-- the numbers before a place of the list are added, and the one there
pub adds_more : (list : List ℕ) (k d : ℕ) (old mid new : List ℕ) → k < length list → Adds (take k list) old mid → Adds (get_or list k d ∷ []) mid new
    → Adds (take (k + 1) list) old new
adds_more list k d old mid new lt before after =
    subst (λ more. Adds more old new) (sym (take_more list k d lt)) (adds_both (take k list) (get_or list k d ∷ []) old mid new before after)

-- a taker is set where there is room
pub taker_set : (old mid : List (Option ℕ)) (net u : ℕ) → ((n : ℕ) → taker_at mid n ≡ taker_at old n) → net < length mid
    → SetsTaker net u old (slice_set mid net (Some u))
taker_set old mid net u kept within n = elim (ℕ_discrete n net) [
  | yes same ↦
      ap (taker_at (slice_set mid net (Some u))) same ∙ get_or-set_same mid net (Some u) None within
      ∙ (λ j. if sym (eq-eqb n net same) j then Some u else taker_at old n)
  | no other ↦
      get_or-set_other mid net n (Some u) None other ∙ kept n
      ∙ (λ j. if sym (ne_eqb n net other) j then Some u else taker_at old n)
]

-- all are added
take_whole : (list : List ℕ) (n : ℕ) → length list ≤ n → take n list ≡ list
take_whole [] zero all = refl
take_whole [] (suc n) all = refl
take_whole (x ∷ list) zero all = absurd (omega (arith, all))
take_whole (x ∷ list) (suc n) all = ap (λ ys. x ∷ ys) (take_whole list n (omega (arith, all)))

pub adds_all : (list : List ℕ) (n : ℕ) (old new : List ℕ) → length list ≤ n → Adds (take n list) old new → Adds list old new
adds_all list n old new all adds = subst (λ more. Adds more old new) (take_whole list n all) adds
