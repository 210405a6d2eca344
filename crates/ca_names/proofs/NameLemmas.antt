-- A set of names is looked up as the list of its names.
use Rattle.std.proofs.Common.{◌≡◌, ℕ, ◌+◌, List, Bool, true, false, cond, not, [], ◌∷◌, ◌++◌, length, map}
use Rattle.std.proofs.Common.{Some, None, Vec, Global, refl, sym, ◌∙◌, ap, ◌||◌}
use Rattle.std.specs.Prelude.{position, nat_lt}
use Rattle.std.specs.Str.{bytes_eq}
use Rattle.std.specs.List.{list_any, position_or_len, IsDistinct, AllByRecursion}
use Rattle.std.proofs.lemmas.List.{map-append, length-map}
use Rattle.indexmap.specs.IndexSet.{insert_key}
use Rattle.ca_names.specs.Names.{has_name, place_of, with_name, place_with}

-- the names of these keys
abbrev pub named : List (Vec ℕ Global) → List (List ℕ)
named keys = map (λ key. key.items) keys

abbrev pub same_key : Vec ℕ Global → Vec ℕ Global → Bool
same_key a b = bytes_eq a.items b.items

pub has_name-named : (name : List ℕ) (keys : List (Vec ℕ Global)) → list_any (λ key. bytes_eq name key.items) keys ≡ has_name name (named keys)
has_name-named name [] = refl
has_name-named name (key ∷ keys) = ap (λ more. bytes_eq name key.items || more) (has_name-named name keys)

pub place_with-named : (name : List ℕ) (keys : List (Vec ℕ Global)) → position_or_len (λ key. bytes_eq name key.items) keys ≡ place_with name (named keys)
place_with-named name [] = refl
place_with-named name (key ∷ keys) = ap (λ more. cond (not (bytes_eq name key.items)) (1 + more) 0) (place_with-named name keys)

pub place_of-named : (name : List ℕ) (keys : List (Vec ℕ Global)) → position (λ key. bytes_eq name key.items) keys ≡ place_of name (named keys)
place_of-named name keys =
    ap (λ place. cond (nat_lt place (length keys)) (Some place) None) (place_with-named name keys)
    ∙ ap (λ len. cond (nat_lt (place_with name (named keys)) len) (Some (place_with name (named keys))) None) (sym (length-map keys (λ (key : Vec ℕ Global). key.items)))

pub insert_key-named : (key : Vec ℕ Global) (keys : List (Vec ℕ Global)) → named (insert_key same_key keys key) ≡ with_name key.items (named keys)
insert_key-named key keys =
    by (list_any (same_key key) keys)
    ∙ ap (λ found. cond found (named keys) (named keys ++ key.items ∷ [])) (has_name-named key.items keys)
  where
    by : (found : Bool) → named (cond found keys (keys ++ key ∷ [])) ≡ cond found (named keys) (named keys ++ key.items ∷ [])
    by true = refl
    by false = map-append (λ (key : Vec ℕ Global). key.items) keys (key ∷ [])

all-named : (key : Vec ℕ Global) (keys : List (Vec ℕ Global)) → AllByRecursion (λ other. same_key key other ≡ false) keys
    → AllByRecursion (λ name. bytes_eq key.items name ≡ false) (named keys)
all-named key [] all = all
all-named key (other ∷ keys) all = (all.0, all-named key keys all.1)

pub IsDistinct-named : (keys : List (Vec ℕ Global)) → IsDistinct same_key keys → IsDistinct bytes_eq (named keys)
unfolding IsDistinct
IsDistinct-named [] distinct = distinct
IsDistinct-named (key ∷ keys) distinct = (all-named key keys distinct.0, IsDistinct-named keys distinct.1)
