-- A name is found among different names as in the list of all.
use Rattle.std.proofs.Common.{◌≡◌, ◌≢◌, ℕ, zero, suc, ◌+◌, ◌<◌, ◌||◌, Bool, true, false, cond, List, [], ◌∷◌, ◌++◌}
use Rattle.std.proofs.Common.{◌∙◌, length, length-append, take, ap, arith, refl, sym, subst, true≢false, get_or}
use Rattle.std.specs.Prelude.{Option, Some, None, slice_get, if◌then◌else◌}
use Rattle.std.specs.List.{list_any, position_from}
use Rattle.std.specs.Str.{bytes_eq}
use Rattle.std.proofs.lemmas.Iterator.Adapters.{position_from-zero}
use Rattle.std.proofs.lemmas.List.{take_more, length-take-le}
use Rattle.std.proofs.lemmas.List.Quantifiers.{position-Some}
use Rattle.std.proofs.lemmas.Option.{slice_get_within, get_or_from_slice_get, slice_get-get_or}
use Rattle.std.proofs.lemmas.Slice.Eq.{bytes_eq-Decides}
use Rattle.ca_names.specs.Names.{has_name, place_of, with_name}
use Rattle.ca_log.specs.code.Lookup.{first_at, IsLookup}

-- a place that was found, else a place for what is new
pick : Option ℕ → Bool → ℕ → Option ℕ
pick (Some k) test n = Some k
pick None test n = cond test (Some n) None

-- what is found in a list with one more
from_push : (test : List ℕ → Bool) (i : ℕ) (xs : List (List ℕ)) (x : List ℕ)
    → position_from test i (xs ++ x ∷ []) ≡ pick (position_from test i xs) (test x) (i + length xs)
unfolding pick
from_push test i [] x = ap (λ (n : ℕ). cond (test x) (Some n) None) (let same : i ≡ i + length {A = List ℕ} [] = omega arith in same)
from_push test i (y ∷ ys) x =
    by (test y) (from_push test (i + 1) ys x
    ∙ ap (pick (position_from test (i + 1) ys) (test x)) (let same : (i + 1) + length ys ≡ i + length (y ∷ ys) = omega arith in same))
  where
    by : (passed : Bool) → position_from test (i + 1) (ys ++ x ∷ []) ≡ pick (position_from test (i + 1) ys) (test x) (i + length (y ∷ ys))
        → cond passed (Some i) (position_from test (i + 1) (ys ++ x ∷ []))
        ≡ pick (cond passed (Some i) (position_from test (i + 1) ys)) (test x) (i + length (y ∷ ys))
    by true rest = refl
    by false rest = rest

place_push : (name : List ℕ) (xs : List (List ℕ)) (x : List ℕ)
    → place_of name (xs ++ x ∷ []) ≡ pick (place_of name xs) (bytes_eq name x) (length xs)
place_push name xs x =
    position_from-zero (bytes_eq name) (xs ++ x ∷ [])
    ∙ (from_push (bytes_eq name) 0 xs x
    ∙ (ap (λ (o : Option ℕ). pick o (bytes_eq name x) (0 + length xs)) (sym (position_from-zero (bytes_eq name) xs))
    ∙ ap (pick (place_of name xs) (bytes_eq name x)) (let same : 0 + length xs ≡ length xs = omega arith in same)))

-- a name that is there is found
has_place : (test : List ℕ → Bool) (i : ℕ) (xs : List (List ℕ)) → list_any test xs ≡ true → position_from test i xs ≢ None
has_place test i [] has = absurd (true≢false (sym has))
has_place test i (x ∷ xs) has = by (test x) (has_place test (i + 1) xs) has
  where
    by : (passed : Bool) → (list_any test xs ≡ true → position_from test (i + 1) xs ≢ None)
        → (passed || list_any test xs) ≡ true → cond passed (Some i) (position_from test (i + 1) xs) ≢ None
    by true rest any none = let clash : Some i ≡ None = none in cc
    by false rest any none = rest any none

found_within : (name : List ℕ) (xs : List (List ℕ)) (k : ℕ) → place_of name xs ≡ Some k → k < length xs
found_within name xs k found = (position-Some (bytes_eq name) xs k [] found).0

-- an entry stays where it is when one more comes
kept_at : (firsts : List ℕ) (more k value : ℕ) → slice_get firsts k ≡ Some value → slice_get (firsts ++ more ∷ []) k ≡ Some value
kept_at [] more k value at = absurd (let clash : None ≡ Some value = at in cc)
kept_at (first ∷ firsts) more zero value at = at
kept_at (first ∷ firsts) more (suc k) value at = kept_at firsts more k value at

last_at : (firsts : List ℕ) (more k : ℕ) → k ≡ length firsts → slice_get (firsts ++ more ∷ []) k ≡ Some more
last_at [] more k is = ap (slice_get (more ∷ [])) is
last_at (first ∷ firsts) more zero is = absurd (omega (arith, is))
last_at (first ∷ firsts) more (suc k) is = last_at firsts more k (omega (arith, is))

module _ (different : List (List ℕ)) (firsts : List ℕ) (names : List (List ℕ)) (output : ℕ) (name : List ℕ)
    (at : slice_get names output ≡ Some name) (are : IsLookup different firsts (take output names)) where
  one_more : take (output + 1) names ≡ take output names ++ name ∷ []
  one_more = take_more names output name (slice_get_within names output name at)
      ∙ ap (λ (one : List ℕ). take output names ++ one ∷ []) (get_or_from_slice_get names output name name at)

  -- a name that is there adds nothing
  pub same_name : has_name name different ≡ true → IsLookup different firsts (take (output + 1) names)
  unfolding pick
  same_name has = record {
    as_many = are.as_many;
    finds = λ other. finds_other other ∙ ap (place_of other) (sym one_more);
  }
    where
      there : (other : List ℕ) → bytes_eq other name ≡ true → (o : Option ℕ) → place_of other (take output names) ≡ o → o ≢ None
      there other same o is none =
          let equal : other ≡ name = (bytes_eq-Decides other name).0 same in
          by (place_of name different) refl
        where
          found : first_at firsts (place_of name different) ≡ None
          found = are.finds name ∙ ap (λ (n : List ℕ). place_of n (take output names)) (sym ((bytes_eq-Decides other name).0 same)) ∙ is ∙ none

          by : (p : Option ℕ) → place_of name different ≡ p → ⊥
          by None missing = has_place (bytes_eq name) 0 different has (sym (position_from-zero (bytes_eq name) different) ∙ missing)
          by (Some k) there =
              let below = found_within name different k there in
              let many = are.as_many in
              let value = slice_get-get_or firsts k 0 (omega (arith, below, many)) in
              let clash : Some (get_or firsts k 0) ≡ None = sym value ∙ ap (first_at firsts) (sym there) ∙ found in
              cc

      finds_other : (other : List ℕ) → first_at firsts (place_of other different) ≡ place_of other (take output names ++ name ∷ [])
      finds_other other =
          are.finds other ∙ by (place_of other (take output names)) refl (bytes_eq other name) refl
          ∙ sym (place_push other (take output names) name)
        where
          by : (o : Option ℕ) → place_of other (take output names) ≡ o → (test : Bool) → bytes_eq other name ≡ test
              → o ≡ pick o test (length (take output names))
          by (Some k) is test same = refl
          by None is true same = absurd (there other same None is refl)
          by None is false same = refl

  -- a new one comes last
  pub new_name : has_name name different ≡ false
      → IsLookup (with_name name different) (firsts ++ output ∷ []) (take (output + 1) names)
  unfolding pick
  new_name missing = record {
    as_many = let many = are.as_many in
        subst (λ (found : List (List ℕ)). length (firsts ++ output ∷ []) ≡ length found) (sym with_last)
        (let one = length-append firsts (output ∷ []) in let other = length-append different (name ∷ []) in omega (arith, many, one, other));
    finds = λ other.
        subst (λ (found : List (List ℕ)). first_at (firsts ++ output ∷ []) (place_of other found) ≡ place_of other (take (output + 1) names)) (sym with_last)
        (ap (first_at (firsts ++ output ∷ [])) (place_push other different name)
        ∙ (by other (place_of other different) refl (bytes_eq other name)
        ∙ sym (ap (place_of other) one_more ∙ place_push other (take output names) name)));
  }
    where
      with_last : with_name name different ≡ different ++ name ∷ []
      with_last = ap (λ (test : Bool). if test then different else different ++ name ∷ []) missing

      long : length (take output names) ≡ output
      long = let within = slice_get_within names output name at in length-take-le output names (omega (arith, within))

      by : (other : List ℕ) (o : Option ℕ) → place_of other different ≡ o → (test : Bool)
          → first_at (firsts ++ output ∷ []) (pick o test (length different))
          ≡ pick (place_of other (take output names)) test (length (take output names))
      by other (Some k) is test =
          let below = found_within other different k is in
          let many = are.as_many in
          let value = slice_get-get_or firsts k 0 (omega (arith, below, many)) in
          let there : place_of other (take output names) ≡ Some (get_or firsts k 0) =
          sym (are.finds other) ∙ ap (first_at firsts) is ∙ value in
          kept_at firsts output k (get_or firsts k 0) value
          ∙ ap (λ (o : Option ℕ). pick o test (length (take output names))) (sym there)
      by other None is true =
          let none : place_of other (take output names) ≡ None = sym (are.finds other) ∙ ap (first_at firsts) is in
          last_at firsts output (length different) (sym are.as_many)
          ∙ (ap Some (sym long) ∙ ap (λ (o : Option ℕ). pick o true (length (take output names))) (sym none))
      by other None is false =
          let none : place_of other (take output names) ≡ None = sym (are.finds other) ∙ ap (first_at firsts) is in
          ap (λ (o : Option ℕ). pick o false (length (take output names))) (sym none)

-- no name is looked up yet
pub no_names : IsLookup [] [] []
no_names = record { as_many = refl; finds = λ name. refl }
