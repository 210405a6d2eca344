-- Places of different names.
use Rattle.std.proofs.Common.{◌≡◌, ℕ, zero, suc, ◌+◌, ◌<◌, List, Bool, true, false, cond, not, ◌||◌, [], ◌∷◌}
use Rattle.std.proofs.Common.{length, map}
use Rattle.std.proofs.Common.{Some, None, arith, refl, sym, ap, ◌∙◌, subst, true≢false}
use Rattle.std.specs.Prelude.{slice_get, nat_lt}
use Rattle.std.specs.List.{AllByRecursion, IsDistinct, position_or_len}
use Rattle.std.specs.Str.{bytes_eq}
use Rattle.std.proofs.lemmas.Bool.{lt-ltb}
use Rattle.std.proofs.lemmas.Slice.Eq.{bytes_eq-Decides}
use Rattle.ca_names.specs.Names.{has_name, place_of}
use Rattle.ca_verilog.proofs.DistinctLemmas.{same_name, differ}

all_got : {X : Type 0} (P : X → Type 0) (xs : List X) (place : ℕ) (x : X) → AllByRecursion P xs → slice_get xs place ≡ Some x → P x
all_got P [] place x all is = absurd cc
all_got P (first ∷ more) zero x all is =
    let same : first ≡ x = cc in
    subst P same all.0
all_got P (first ∷ more) (suc place) x all is = all_got P more place x all.1 is

pub got_within : {X : Type 0} (xs : List X) (place : ℕ) (x : X) → slice_get xs place ≡ Some x → place < length xs
got_within [] place x is = absurd cc
got_within (first ∷ more) zero x is = omega arith
got_within (first ∷ more) (suc place) x is = omega (arith, got_within more place x is)

pub got_map : {X Y : Type 0} (f : X → Y) (xs : List X) (place : ℕ) (x : X) → slice_get xs place ≡ Some x → slice_get (map f xs) place ≡ Some (f x)
got_map f [] place x is = absurd cc
got_map f (first ∷ more) zero x is =
    let same : first ≡ x = cc in
    ap (λ one. Some (f one)) same
got_map f (first ∷ more) (suc place) x is = got_map f more place x is

pub map_got : {X Y : Type 0} (f : X → Y) (xs : List X) (place : ℕ) (y : Y) → slice_get (map f xs) place ≡ Some y
    → (x : X) × (slice_get xs place ≡ Some x) × (f x ≡ y)
map_got f [] place y is = absurd cc
map_got f (first ∷ more) zero y is = (first, refl, cc)
map_got f (first ∷ more) (suc place) y is = map_got f more place y is

differs : (names : List (List ℕ)) (first name : List ℕ) (place : ℕ) → AllByRecursion (λ other. bytes_eq first other ≡ false) names
    → slice_get names place ≡ Some name → bytes_eq first name ≡ false
differs names first name place apart is = all_got (λ other. bytes_eq first other ≡ false) names place name apart is

-- different names have one place each
pub distinct_once : (names : List (List ℕ)) → IsDistinct bytes_eq names → (j k : ℕ) (name : List ℕ) → slice_get names j ≡ Some name
    → slice_get names k ≡ Some name → j ≡ k
unfolding IsDistinct
distinct_once [] distinct j k name one other = absurd cc
distinct_once (first ∷ more) distinct zero zero name one other = refl
distinct_once (first ∷ more) distinct zero (suc k) name one other =
    let same : first ≡ name = cc in
    absurd (true≢false (sym (same_name name) ∙ subst (λ (n : List ℕ). bytes_eq n name ≡ false) same (differs more first name k distinct.0 other)))
distinct_once (first ∷ more) distinct (suc j) zero name one other =
    let same : first ≡ name = cc in
    absurd (true≢false (sym (same_name name) ∙ subst (λ (n : List ℕ). bytes_eq n name ≡ false) same (differs more first name j distinct.0 one)))
distinct_once (first ∷ more) distinct (suc j) (suc k) name one other =
    ap (λ (place : ℕ). suc place) (distinct_once more distinct.1 j k name one other)

place_first : (names : List (List ℕ)) → IsDistinct bytes_eq names → (place : ℕ) (name : List ℕ) → slice_get names place ≡ Some name
    → position_or_len (bytes_eq name) names ≡ place
unfolding IsDistinct
place_first [] distinct place name is = absurd cc
place_first (first ∷ more) distinct zero name is =
    let same : first ≡ name = cc in
    let equal : bytes_eq name first ≡ true = subst (λ (n : List ℕ). bytes_eq name n ≡ true) (sym same) (same_name name) in
    ap (λ (found : Bool). cond (not found) (1 + position_or_len (bytes_eq name) more) 0) equal
place_first (first ∷ more) distinct (suc place) name is =
    let other : bytes_eq name first ≡ false = differ first name (differs more first name place distinct.0 is) in
    let later : position_or_len (bytes_eq name) more ≡ place = place_first more distinct.1 place name is in
    ap (λ (found : Bool). cond (not found) (1 + position_or_len (bytes_eq name) more) 0) other ∙ omega (arith, later)

-- the place of a name among different ones is determined
pub place_reported : (names : List (List ℕ)) → IsDistinct bytes_eq names → (place : ℕ) (name : List ℕ) → slice_get names place ≡ Some name
    → place_of name names ≡ Some place
place_reported names distinct place name is =
    ap (λ (at : ℕ). cond (nat_lt at (length names)) (Some at) None) (place_first names distinct place name is)
    ∙ ap (λ (inside : Bool). cond inside (Some place) None) (lt-ltb place (length names) (got_within names place name is))

-- a name that is there has a place
pub found_at : (name : List ℕ) (names : List (List ℕ)) → has_name name names ≡ true → (place : ℕ) × (slice_get names place ≡ Some name)
found_at name [] is = absurd cc
found_at name (first ∷ more) is = by (bytes_eq name first) refl is (found_at name more)
  where
    by : (same : Bool) → bytes_eq name first ≡ same → (same || has_name name more) ≡ true
        → (has_name name more ≡ true → (place : ℕ) × (slice_get more place ≡ Some name))
        → (place : ℕ) × (slice_get (first ∷ more) place ≡ Some name)
    by true reported is later =
        let equal : name ≡ first = (bytes_eq-Decides name first).0 reported in
        (zero, ap (λ (n : List ℕ). Some n) (sym equal))
    by false reported is later =
        let there : (place : ℕ) × (slice_get more place ≡ Some name) = later is in
        (suc there.0, there.1)
