-- Lists of different names.
use Rattle.std.proofs.Common.{◌≡◌, ℕ, ◌≤◌, List, Bool, true, false, ◌||◌, [], ◌∷◌, ◌++◌, length}
use Rattle.std.proofs.Common.{None, arith, refl, sym, ◌∙◌, true≢false}
use Rattle.std.specs.List.{AllByRecursion, IsDistinct, position_or_len}
use Rattle.std.specs.Str.{bytes_eq}
use Rattle.std.proofs.lemmas.Grind.{common_steps}
use Rattle.std.proofs.lemmas.List.Folds.{list_any_none}
use Rattle.std.proofs.lemmas.List.Sums.{fails_before_first}
use Rattle.std.proofs.lemmas.Slice.Eq.{bytes_eq-Decides}
use Rattle.ca_names.specs.Names.{has_name, place_of}

pub or_false : (x y : Bool) → (x || y) ≡ false → (x ≡ false) × (y ≡ false)
or_false true y is = absurd cc
or_false false y is = (refl, is)

-- a name equals itself
pub same_name : (name : List ℕ) → bytes_eq name name ≡ true
same_name name = (bytes_eq-Decides name name).1 refl

-- names differ both ways
pub differ : (one other : List ℕ) → bytes_eq one other ≡ false → bytes_eq other one ≡ false
differ one other is = by (bytes_eq other one) refl
  where
    by : (same : Bool) → bytes_eq other one ≡ same → same ≡ false
    by false reported = refl
    by true reported =
        let equal : other ≡ one = (bytes_eq-Decides other one).0 reported in
        absurd (true≢false (sym ((bytes_eq-Decides one other).1 (sym equal)) ∙ is))

apart_grown : (name new : List ℕ) (names : List (List ℕ)) → AllByRecursion (λ other. bytes_eq name other ≡ false) names
    → bytes_eq name new ≡ false → AllByRecursion (λ other. bytes_eq name other ≡ false) (names ++ new ∷ [])
apart_grown name new [] all is = (is, tt)
apart_grown name new (first ∷ more) all is = (all.0, apart_grown name new more all.1 is)

-- a new name keeps names different
pub distinct_grown : (names : List (List ℕ)) (name : List ℕ) → IsDistinct bytes_eq names → has_name name names ≡ false
    → IsDistinct bytes_eq (names ++ name ∷ [])
unfolding IsDistinct
distinct_grown [] name distinct new = (tt, tt)
distinct_grown (first ∷ more) name distinct new =
    let apart : (bytes_eq name first ≡ false) × (has_name name more ≡ false) = or_false (bytes_eq name first) (has_name name more) new in
    (apart_grown first name more distinct.0 (differ name first apart.0), distinct_grown more name distinct.1 apart.1)

-- a name that has no place is not there
pub not_there : (name : List ℕ) (names : List (List ℕ)) → place_of name names ≡ None → has_name name names ≡ false
not_there name names is =
    let beyond : length names ≤ position_or_len (bytes_eq name) names = grind (arith, common_steps) in
    list_any_none (bytes_eq name) names (λ k d within. fails_before_first (bytes_eq name) names k d (omega (arith, beyond)))
