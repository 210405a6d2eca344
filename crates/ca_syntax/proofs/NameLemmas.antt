-- What names are declared as, with one declaration more.
use Rattle.std.proofs.Common.{◌≡◌, ℕ, zero, suc, ◌+◌, ◌≤◌, List, [], ◌∷◌, ◌++◌, map, length, Bool, true}
use Rattle.std.proofs.Common.{false, cond, not, ◌&&◌}
use Rattle.std.proofs.Common.{◌||◌, Some, None, arith, refl, sym, ap, ◌∙◌, true≢false}
use Rattle.std.specs.Prelude.{fold, slice_get}
use Rattle.std.specs.List.{list_any, IsDistinct, position_or_len}
use Rattle.std.specs.Str.{bytes_eq}
use Rattle.std.proofs.lemmas.Bool.{le-ltb}
use Rattle.std.proofs.lemmas.List.{map-append}
use Rattle.std.proofs.lemmas.List.Folds.{list_any-append}
use Rattle.std.proofs.lemmas.List.Sums.{fold-append}
use Rattle.ca_names.specs.Names.{has_name, place_of, with_name}
use Rattle.ca_verilog.specs.declared.table.Direction.TheVariants as direction
use Rattle.ca_verilog.specs.Bus.{is_inner}
use Rattle.ca_verilog.proofs.DistinctLemmas.{or_false, distinct_grown}
use Rattle.ca_verilog.proofs.KnownLemmas.{known_grown}
use Rattle.ca_syntax.specs.Tree.{Declared}
use Rattle.ca_syntax.specs.Names.{names_in, is_declared, directs, is_directed, is_wire, direction_of}
use Rattle.ca_syntax.specs.Names.{range_of}

-- names, each once, after those seen
abbrev pub once_after : List (List ℕ) → List (List ℕ) → List (List ℕ)
once_after seen names = fold (λ seen name. with_name name seen) seen names

-- the names that are declared
abbrev pub all_names : List Declared → List (List ℕ)
all_names declared = map (λ (it : Declared). it.name) declared

pub names_grow : (declared : List Declared) (it : Declared) → names_in (declared ++ it ∷ []) ≡ with_name it.name (names_in declared)
names_grow declared it =
    ap (once_after []) (map-append (λ (it : Declared). it.name) declared (it ∷ []))
    ∙ fold-append (λ seen name. with_name name seen) [] (all_names declared) (it.name ∷ [])

pub names_more : (declared later : List Declared) → names_in (declared ++ later) ≡ once_after (names_in declared) (all_names later)
names_more declared later =
    ap (once_after []) (map-append (λ (it : Declared). it.name) declared later)
    ∙ fold-append (λ seen name. with_name name seen) [] (all_names declared) (all_names later)

with_distinct : (seen : List (List ℕ)) (name : List ℕ) → IsDistinct bytes_eq seen → IsDistinct bytes_eq (with_name name seen)
with_distinct seen name distinct = by (has_name name seen) refl
  where
    by : (found : Bool) → has_name name seen ≡ found → IsDistinct bytes_eq (cond found seen (seen ++ name ∷ []))
    by true is = distinct
    by false is = distinct_grown seen name distinct is

once_distinct : (seen names : List (List ℕ)) → IsDistinct bytes_eq seen → IsDistinct bytes_eq (once_after seen names)
once_distinct seen [] distinct = distinct
once_distinct seen (name ∷ names) distinct = once_distinct (with_name name seen) names (with_distinct seen name distinct)

none_distinct : IsDistinct bytes_eq []
unfolding IsDistinct
none_distinct = tt

pub names_distinct : (declared : List Declared) → IsDistinct bytes_eq (names_in declared)
names_distinct declared = once_distinct [] (all_names declared) none_distinct

regrouped : (a b c : Bool) → ((a || (b || false)) || c) ≡ (a || (b || c))
regrouped true b c = refl
regrouped false true c = refl
regrouped false false c = refl

has_once : (name : List ℕ) (seen names : List (List ℕ)) → has_name name (once_after seen names) ≡ (has_name name seen || has_name name names)
has_once name seen [] = by (has_name name seen)
  where
    by : (found : Bool) → found ≡ (found || false)
    by true = refl
    by false = refl
has_once name seen (first ∷ names) =
    has_once name (with_name first seen) names
    ∙ ap (λ found. found || has_name name names)
    (known_grown seen seen first (λ other. refl) name ∙ list_any-append (bytes_eq name) seen (first ∷ []))
    ∙ regrouped (has_name name seen) (bytes_eq name first) (has_name name names)

-- the names are the declared ones
pub has_declared : (name : List ℕ) (declared : List Declared) → has_name name (names_in declared) ≡ is_declared name declared
has_declared name declared = has_once name [] (all_names declared)

-- a name that isn't there has no place
nowhere : (name : List ℕ) (names : List (List ℕ)) → has_name name names ≡ false → position_or_len (bytes_eq name) names ≡ length names
nowhere name [] is = refl
nowhere name (first ∷ names) is =
    let parts : (bytes_eq name first ≡ false) × (has_name name names ≡ false) = or_false (bytes_eq name first) (has_name name names) is in
    let later : position_or_len (bytes_eq name) names ≡ length names = nowhere name names parts.1 in
    ap (λ found. cond (not found) (1 + position_or_len (bytes_eq name) names) 0) parts.0 ∙ omega (arith, later)

pub no_place : (name : List ℕ) (names : List (List ℕ)) → has_name name names ≡ false → place_of name names ≡ None
no_place name names is =
    let over : length names ≤ position_or_len (bytes_eq name) names = omega (arith, nowhere name names is) in
    ap (λ inside. cond inside (Some (position_or_len (bytes_eq name) names)) None)
    (le-ltb (position_or_len (bytes_eq name) names) (length names) over)

both_false : (x y : Bool) → x ≡ false → (x && y) ≡ false
both_false true y is = absurd cc
both_false false y is = refl

-- a name that isn't declared has no declaration of a kind
unnamed : (test : Declared → Bool) (name : List ℕ) (declared : List Declared) → is_declared name declared ≡ false
    → list_any (λ (it : Declared). bytes_eq name it.name && test it) declared ≡ false
unnamed test name [] is = refl
unnamed test name (it ∷ more) is =
    let parts : (bytes_eq name it.name ≡ false) × (is_declared name more ≡ false) = or_false (bytes_eq name it.name) (is_declared name more) is in
    ap (λ found. found || list_any (λ (it : Declared). bytes_eq name it.name && test it) more) (both_false (bytes_eq name it.name) (test it) parts.0)
    ∙ unnamed test name more parts.1

pub not_directed : (name : List ℕ) (declared : List Declared) → is_declared name declared ≡ false → is_directed name declared ≡ false
not_directed name declared is = unnamed (λ (it : Declared). not (is_inner it.direction)) name declared is

pub not_wire : (name : List ℕ) (declared : List Declared) → is_declared name declared ≡ false → is_wire name declared ≡ false
not_wire name declared is = unnamed (λ (it : Declared). is_inner it.direction) name declared is

-- a name without a direction has the one that is declared later
pub direction_later : (name : List ℕ) (declared later : List Declared) → is_directed name declared ≡ false
    → direction_of name (declared ++ later) ≡ direction_of name later
direction_later name [] later is = refl
direction_later name (it ∷ more) later is =
    let parts : (directs name it ≡ false) × (is_directed name more ≡ false) = or_false (directs name it) (is_directed name more) is in
    ap (λ found. cond found it.direction (direction_of name (more ++ later))) parts.0 ∙ direction_later name more later parts.1

-- a declaration that gives a name no direction leaves the one that it has
pub direction_kept : (name : List ℕ) (declared : List Declared) (it : Declared) → directs name it ≡ false
    → direction_of name (declared ++ it ∷ []) ≡ direction_of name declared
direction_kept name [] it is = ap (λ found. cond found it.direction direction.Inner) is
direction_kept name (first ∷ more) it is =
    ap (λ later. cond (directs name first) first.direction later) (direction_kept name more it is)

-- a name that isn't declared has the range that is declared later
pub range_later : (name : List ℕ) (declared later : List Declared) → is_declared name declared ≡ false
    → range_of name (declared ++ later) ≡ range_of name later
range_later name [] later is = refl
range_later name (it ∷ more) later is =
    let parts : (bytes_eq name it.name ≡ false) × (is_declared name more ≡ false) = or_false (bytes_eq name it.name) (is_declared name more) is in
    ap (λ found. cond found it.range (range_of name (more ++ later))) parts.0 ∙ range_later name more later parts.1

-- a declared name keeps its range
pub range_kept : (name : List ℕ) (declared later : List Declared) → is_declared name declared ≡ true
    → range_of name (declared ++ later) ≡ range_of name declared
range_kept name [] later is = absurd cc
range_kept name (it ∷ more) later is = by (bytes_eq name it.name) is (range_kept name more later)
  where
    by : (same : Bool) → (same || is_declared name more) ≡ true
        → (is_declared name more ≡ true → range_of name (more ++ later) ≡ range_of name more)
        → cond same it.range (range_of name (more ++ later)) ≡ cond same it.range (range_of name more)
    by true is later_is = refl
    by false is later_is = later_is is

-- a declaration of another name leaves the range
pub range_apart : (name : List ℕ) (declared : List Declared) (it : Declared) → bytes_eq name it.name ≡ false
    → range_of name (declared ++ it ∷ []) ≡ range_of name declared
range_apart name [] it is = ap (λ found. cond found it.range None) is
range_apart name (first ∷ more) it is =
    ap (λ later. cond (bytes_eq name first.name) first.range later) (range_apart name more it is)

pub wire_grown : (name : List ℕ) (declared : List Declared) (it : Declared)
    → is_wire name (declared ++ it ∷ []) ≡ (is_wire name declared || ((bytes_eq name it.name && is_inner it.direction) || false))
wire_grown name declared it =
    list_any-append (λ (it : Declared). bytes_eq name it.name && is_inner it.direction) declared (it ∷ [])

-- a place among names stays when more are seen
got_before : (names : List (List ℕ)) (name other : List ℕ) (at : ℕ) → slice_get names at ≡ Some name
    → slice_get (names ++ other ∷ []) at ≡ Some name
got_before [] name other at is = absurd cc
got_before (first ∷ names) name other zero is = is
got_before (first ∷ names) name other (suc at) is = got_before names name other at is

got_with : (names : List (List ℕ)) (name other : List ℕ) (at : ℕ) → slice_get names at ≡ Some name
    → slice_get (with_name other names) at ≡ Some name
got_with names name other at is = by (has_name other names)
  where
    by : (found : Bool) → slice_get (cond found names (names ++ other ∷ [])) at ≡ Some name
    by true = is
    by false = got_before names name other at is

pub got_once : (seen names : List (List ℕ)) (name : List ℕ) (at : ℕ) → slice_get seen at ≡ Some name
    → slice_get (once_after seen names) at ≡ Some name
got_once seen [] name at is = is
got_once seen (other ∷ names) name at is = got_once (with_name other seen) names name at (got_with seen name other at is)

-- a name with a direction is declared
pub directed_declared : (name : List ℕ) (declared : List Declared) → is_directed name declared ≡ true → is_declared name declared ≡ true
directed_declared name declared is = by (is_declared name declared) refl
  where
    by : (found : Bool) → is_declared name declared ≡ found → found ≡ true
    by true has = refl
    by false has = absurd (true≢false (sym is ∙ not_directed name declared has))

-- it is no inner one
pub directed_outer : (name : List ℕ) (declared : List Declared) → is_directed name declared ≡ true → is_inner (direction_of name declared) ≡ false
directed_outer name [] is = absurd cc
directed_outer name (it ∷ more) is = by (directs name it) refl is (directed_outer name more)
  where
    outer : (x y : Bool) → (x && not y) ≡ true → y ≡ false
    outer true true is = absurd cc
    outer true false is = refl
    outer false y is = absurd cc

    by : (found : Bool) → directs name it ≡ found → (found || is_directed name more) ≡ true
        → (is_directed name more ≡ true → is_inner (direction_of name more) ≡ false)
        → is_inner (cond found it.direction (direction_of name more)) ≡ false
    by true found either later = outer _ (is_inner it.direction) found
    by false found either later = later either
