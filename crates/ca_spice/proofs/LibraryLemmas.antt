-- Subcircuits of different names make a library.
use Rattle.std.proofs.Common.{◌≡◌, ℕ, suc, zero, ◌<◌, ◌≤◌, List, Bool, true, false, cond, [], ◌∷◌, ◌++◌, length}
use Rattle.std.proofs.Common.{map, take, get_or, Some, None, refl, sym, ◌∙◌, ap, subst, arith, true≢false}
use Rattle.std.proofs.Common.{◌||◌}
use Rattle.std.specs.Prelude.{Option, IsSome}
use Rattle.std.specs.Str.{bytes_eq}
use Rattle.std.specs.List.{IsDistinct, AllByRecursion, All}
use Rattle.std.proofs.lemmas.List.{map-append, length-map, get_or-map, take-map}
use Rattle.std.proofs.lemmas.Slice.Eq.{bytes_eq-Decides}
use Rattle.ca_lex.specs.Words.{upper_case}
use Rattle.ca_cell.specs.declared.library.Entry.{Entry}
use Rattle.ca_cell.specs.Library.{Named, entry_of, raw_of}
use Rattle.ca_spice.specs.declared.subcircuit.Subcircuit.{Subcircuit}
use Rattle.ca_names.specs.Names.{has_name}
use Rattle.ca_spice.specs.code.Kept.{IsUpper, names_of}
use Rattle.ca_spice.specs.Views.{subcircuit_seen}
use Rattle.ca_spice.specs.Reading.{resolved_cell}
use Rattle.ca_pin_sets.specs.Resolved.{resolved}

-- names differ whichever is compared with the other
other_way : (left right : List ℕ) → bytes_eq left right ≡ false → bytes_eq right left ≡ false
other_way left right differ = by (bytes_eq right left) refl
  where
    by : (same : Bool) → bytes_eq right left ≡ same → bytes_eq right left ≡ false
    by true is = absurd (true≢false (sym ((bytes_eq-Decides left right).1 (sym ((bytes_eq-Decides right left).0 is))) ∙ differ))
    by false is = is

-- what holds of each name holds of the one at a place
at_place : (P : List ℕ → Type 0) (names : List (List ℕ)) (place : ℕ) (name : List ℕ) → AllByRecursion P names → place < length names
    → name ≡ get_or names place name → P name
at_place P [] place name all within is = absurd (omega arith)
at_place P (first ∷ names) zero name all within is = subst P (sym is) all.0
at_place P (first ∷ names) (suc place) name all within is = at_place P names place name all.1 (omega arith) is

-- a name among different ones is not among those before it
pub none_before : (names : List (List ℕ)) (place : ℕ) (name : List ℕ) → IsDistinct bytes_eq names → place < length names
    → name ≡ get_or names place name → has_name name (take place names) ≡ false
unfolding IsDistinct
none_before [] place name distinct within is = absurd (omega arith)
none_before (first ∷ names) zero name distinct within is = refl
none_before (first ∷ names) (suc place) name distinct within is =
    ap (λ same. same || has_name name (take place names))
    (other_way first name (at_place (λ other. bytes_eq first other ≡ false) names place name distinct.0 (omega arith) is))
    ∙ none_before names place name distinct.1 (omega arith) is

-- a name that isn't among those of a library has no entry
pub entry_of-none : (library : List Named) (name : List ℕ) → has_name name (map (λ named. named.name) library) ≡ false → entry_of library name ≡ None
entry_of-none [] name lacks = refl
entry_of-none (named ∷ library) name lacks = by (bytes_eq name named.name) lacks (entry_of-none library name)
  where
    by : (same : Bool) → (same || has_name name (map (λ other. other.name) library)) ≡ false
        → (has_name name (map (λ other. other.name) library) ≡ false → entry_of library name ≡ None)
        → cond same (Some named.entry) (entry_of library name) ≡ None
    by true none later = absurd (true≢false none)
    by false none later = later none

-- an added entry is seen as its subcircuit with the nets of input pins' sets written as the pins
pub seen_grown : (library : List Named) (cells : List Subcircuit) (cell : Subcircuit) (entry : Entry) → map subcircuit_seen library ≡ map resolved_cell cells
    → IsUpper cell.name → raw_of entry ≡ resolved cell.raw
    → map subcircuit_seen (library ++ record { name = upper_case cell.name; entry = entry } ∷ []) ≡ map resolved_cell (cells ++ cell ∷ [])
seen_grown library cells cell entry seen upper raw =
    map-append subcircuit_seen library (record { name = upper_case cell.name; entry = entry } ∷ [])
    ∙ ap (λ (all : List Subcircuit). all ++ record { name = upper_case cell.name; raw = raw_of entry } ∷ []) seen
    ∙ ap (λ (name : List ℕ). map resolved_cell cells ++ record { name = name; raw = raw_of entry } ∷ []) upper
    ∙ ap (λ raw. map resolved_cell cells ++ record { name = cell.name; raw = raw } ∷ []) raw
    ∙ sym (map-append resolved_cell cells (cell ∷ []))

-- what holds of all subcircuits holds of one of them
pub at_turn : (P : Subcircuit → Type 0) (all : List Subcircuit) (place : ℕ) (cell : Subcircuit) → All P all
    → (place < length all) × (cell ≡ get_or all place cell) → P cell
at_turn P all place cell held turn = subst P (sym turn.1) (held place cell turn.0)

-- the name of a subcircuit is the one at its place
name_at : (all : List Subcircuit) (place : ℕ) (cell : Subcircuit) → (place < length all) × (cell ≡ get_or all place cell)
    → (place < length (names_of all)) × (cell.name ≡ get_or (names_of all) place cell.name)
name_at all place cell turn =
    let count : length (names_of all) ≡ length all = length-map all (λ (c : Subcircuit). c.name) in (
      subst (λ (n : ℕ). place < n) (sym count) turn.0,
      ap (λ (c : Subcircuit). c.name) turn.1 ∙ sym (get_or-map (λ (c : Subcircuit). c.name) all place cell cell.name turn.0),
    )

-- so its name is in upper case, if all are
pub upper_at : (all : List Subcircuit) (place : ℕ) (cell : Subcircuit) → All IsUpper (names_of all)
    → (place < length all) × (cell ≡ get_or all place cell) → IsUpper cell.name
upper_at all place cell upper turn =
    let named : (place < length (names_of all)) × (cell.name ≡ get_or (names_of all) place cell.name) = name_at all place cell turn in
    subst IsUpper (sym named.1) (upper place cell.name named.0)

names_seen : (library : List Named) → map (λ named. named.name) library ≡ names_of (map subcircuit_seen library)
names_seen [] = refl
names_seen (named ∷ library) = ap (λ (names : List (List ℕ)). named.name ∷ names) (names_seen library)

-- names stay where nets are written as pins
names_resolved : (cells : List Subcircuit) → names_of (map resolved_cell cells) ≡ names_of cells
names_resolved [] = refl
names_resolved (cell ∷ cells) = ap (λ (names : List (List ℕ)). cell.name ∷ names) (names_resolved cells)

-- the name of the next subcircuit isn't in a library of those before it
pub not_added : (library : List Named) (before all : List Subcircuit) (cell : Subcircuit) → map subcircuit_seen library ≡ map resolved_cell before
    → before ≡ take (length before) all → IsDistinct bytes_eq (names_of all) → All IsUpper (names_of all)
    → (length before < length all) × (cell ≡ get_or all (length before) cell) → IsSome (entry_of library (upper_case cell.name)) → ⊥
not_added library before all cell seen so_far distinct upper turn there =
    let named : (length before < length (names_of all)) × (cell.name ≡ get_or (names_of all) (length before) cell.name) = name_at all (length before) cell turn in
    let names : map (λ named. named.name) library ≡ take (length before) (names_of all) =
    names_seen library ∙ ap names_of seen ∙ names_resolved before ∙ ap names_of so_far ∙ sym (take-map (λ (c : Subcircuit). c.name) (length before) all) in
    let lacks : has_name cell.name (map (λ named. named.name) library) ≡ false =
    ap (has_name cell.name) names ∙ none_before (names_of all) (length before) cell.name distinct named.0 named.1 in
    let none : entry_of library (upper_case cell.name) ≡ None =
    ap (entry_of library) (upper_at all (length before) cell upper turn) ∙ entry_of-none library cell.name lacks in
    true≢false (sym (subst (λ (found : Option Entry). IsSome found) none there))

-- nor has that library the most cells yet
pub not_full : (library : List Named) (before : List Subcircuit) (most here : ℕ) → map subcircuit_seen library ≡ map resolved_cell before
    → length before < here → here ≤ most → most ≤ length library → ⊥
not_full library before most here seen within few full =
    let count : length library ≡ length before =
    sym (length-map library subcircuit_seen) ∙ ap length seen ∙ length-map before resolved_cell in
    omega (arith, count, within, few, full)
