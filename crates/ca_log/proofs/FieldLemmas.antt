-- The fields of a record, and the place that they name.
use Rattle.std.proofs.Common.{◌≡◌, ◌≢◌, ℕ, zero, suc, ◌<◌, Bool, true, false, List, [], ◌∷◌, length, ap, arith}
use Rattle.std.proofs.Common.{refl, subst}
use Rattle.std.specs.Prelude.{Option, Some, None, if◌then◌else◌, option_map, ◌&&◌, codes}
use Rattle.std.specs.List.{All}
use Rattle.std.specs.Fmt.{decimal}
use Rattle.std.specs.Str.{bytes_eq}
use Rattle.std.proofs.lemmas.List.Quantifiers.{position-Some}
use Rattle.csv.specs.Records.{field_at}
use Rattle.ca_names.specs.Names.{place_of}
use Rattle.ca_net.specs.declared.trit.Trit.{Trit}
use Rattle.ca_log.specs.declared.record.LogRecord.{LogRecord}
use Rattle.ca_log.specs.LogText.{is_header, number_below, place_with, place_in}
use Rattle.ca_csv.specs.Fields.{AreTwo}

-- which two fields are a header
pub header_of_two : (xs : List (List ℕ)) (one other : List ℕ) → AreTwo xs one other
    → is_header xs ≡ (bytes_eq one (codes "pair") && bytes_eq other (codes "output"))
unfolding is_header
header_of_two xs one other are = ap is_header are

pub no_header_of_others : (xs : List (List ℕ)) → length xs ≢ 2 → is_header xs ≡ false
unfolding is_header
no_header_of_others [] other = refl
no_header_of_others (x ∷ []) other = refl
no_header_of_others (x ∷ y ∷ []) other = absurd (other (omega arith))
no_header_of_others (x ∷ y ∷ z ∷ zs) other = refl

-- a record of other than two fields names no place
pub no_place : (pairs : ℕ) (names : List (List ℕ)) (xs : List (List ℕ)) → length xs ≢ 2 → place_in pairs names xs ≡ None
unfolding place_in
no_place pairs names [] other = refl
no_place pairs names (x ∷ []) other = refl
no_place pairs names (x ∷ y ∷ []) other = absurd (other (omega arith))
no_place pairs names (x ∷ y ∷ z ∷ zs) other = refl

pub two_place : (pairs : ℕ) (names : List (List ℕ)) (xs : List (List ℕ)) (one other : List ℕ) → AreTwo xs one other
    → place_in pairs names xs ≡ place_with pairs names one other
unfolding place_in
two_place pairs names xs one other are = ap (place_in pairs names) are

-- a number below a count is below it
number_within : (count : ℕ) (word : List ℕ) (number : ℕ) → number_below count word ≡ Some number → number < count
unfolding number_below
number_within zero word number is = absurd (let clash : None ≡ Some number = is in cc)
number_within (suc count) word number is = by (bytes_eq word (decimal count)) (number_within count word number) is
  where
    by : (test : Bool) → (number_below count word ≡ Some number → number < count)
        → (if test then Some count else number_below count word) ≡ Some number → number < suc count
    by true rest found = let same : count ≡ number = cc in omega (arith, same)
    by false rest found = let below = rest found in omega (arith, below)

-- a place that is named is of a listed pair and an output
pub record IsWithin (pairs outputs : ℕ) (here : LogRecord) : Type 0 where
  pub pair : here.pair < pairs
  pub output : here.output < outputs

place_within : (pairs : ℕ) (names : List (List ℕ)) (one other : List ℕ) (here : LogRecord)
    → place_with pairs names one other ≡ Some here → IsWithin pairs (length names) here
place_within pairs names one other here is = by (number_below pairs one) refl (place_of other names) refl is
  where
    by : (number : Option ℕ) → number_below pairs one ≡ number → (place : Option ℕ) → place_of other names ≡ place
        → elim number as (λ _. Option LogRecord) [
          | None ↦ None
          | Some pair ↦ option_map (λ output. record { pair = pair; output = output }) place
        ] ≡ Some here → IsWithin pairs (length names) here
    by None none place at found = absurd (let clash : None ≡ Some here = found in cc)
    by (Some pair) some None at found = absurd (let clash : None ≡ Some here = found in cc)
    by (Some pair) some (Some output) at found =
        let made : LogRecord = record { pair = pair; output = output } in
        let same : made ≡ here = cc in
        subst (IsWithin pairs (length names)) same (record {
          pair = number_within pairs one pair some;
          output = (position-Some (bytes_eq other) names output [] at).0;
        })

named_within : (pairs : ℕ) (names : List (List ℕ)) (xs : List (List ℕ)) (here : LogRecord) → place_in pairs names xs ≡ Some here
    → IsWithin pairs (length names) here
unfolding place_in
named_within pairs names [] here is = absurd (let clash : None ≡ Some here = is in cc)
named_within pairs names (x ∷ []) here is = absurd (let clash : None ≡ Some here = is in cc)
named_within pairs names (x ∷ y ∷ []) here is = place_within pairs names x y here is
named_within pairs names (x ∷ y ∷ z ∷ zs) here is = absurd (let clash : None ≡ Some here = is in cc)

pub listed_in : (pairs : ℕ) (names : List (List ℕ)) (xs : List (List ℕ)) (here : LogRecord) → place_in pairs names xs ≡ Some here
    → here.pair < pairs
listed_in pairs names xs here is = (named_within pairs names xs here is).pair

pub named_in : (pairs : ℕ) (names : List (List ℕ)) (xs : List (List ℕ)) (here : LogRecord) → place_in pairs names xs ≡ Some here
    → here.output < length names
named_in pairs names xs here is = (named_within pairs names xs here is).output

-- each list of values has one there
pub observed_in : (names : List (List ℕ)) (expected : List (List Trit)) (xs : List (List ℕ)) (here : LogRecord)
    → All (λ values. length values ≡ length names) expected → place_in (length expected) names xs ≡ Some here
    → All (λ values. here.output < length values) expected
observed_in names expected xs here values is k d below =
    let output = named_in (length expected) names xs here is in
    let count = values k d below in
    omega (arith, output, count)
