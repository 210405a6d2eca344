-- Copies of libraries, and names that no entry has.
use Rattle.std.proofs.Common.{◌≡◌, ℕ, zero, suc, ◌+◌, ◌<◌, ◌≤◌, ◌^◌, List, Bool, true, false, [], ◌∷◌, ◌++◌}
use Rattle.std.proofs.Common.{length, get_or, take, inl, inr, refl, sym, ◌∙◌, ap, subst, arith, true≢false}
use Rattle.std.specs.Prelude.{Option, Some, None, IsNone, IsSomeAnd, Result, Ok, Err, OnOk, Vec, cond, slice_get, replicate}
use Rattle.std.specs.List.{All, AllByRecursion, IsDistinct}
use Rattle.std.specs.Str.{bytes_eq}
use Rattle.std.specs.declared.alloc.Global.{Global}
use Rattle.std.proofs.lemmas.Bool.{cases_lt}
use Rattle.std.proofs.lemmas.List.{map-append, length-append, length-replicate, length-take-le, take_more}
use Rattle.std.proofs.lemmas.List.Elements.{All-head, All-tail}
use Rattle.std.proofs.lemmas.Option.{slice_get_within, get_or_from_slice_get, same_Some}
use Rattle.std.proofs.lemmas.Slice.Eq.{bytes_eq-Decides}
use Rattle.std.specs.Map.{keys_of}
use Rattle.ca_lex.specs.Words.{upper_case}
use Rattle.ca_cell.specs.declared.library.Entry.{Entry}
use Rattle.ca_cell.specs.Library.{Named, entry_of}
use Rattle.ca_cell.specs.code.Entries.{named_entries}

-- the names before a place are as short as those before the next, if that at the place is
pub longest_step : (library : List Named) (i old new : ℕ) (here : Named) → slice_get library i ≡ Some here
    → length here.name ≤ new → old ≤ new
    → ((k : ℕ) (d : Named) → k < i → length (get_or library k d).name ≤ old)
    → (k : ℕ) (d : Named) → k < i + 1 → length (get_or library k d).name ≤ new
longest_step library i old new here at fits grows before k d lt = elim (cases_lt k i) [
  | inl less ↦ let b = before k d less in omega arith
  | inr ge ↦
      let e : i ≡ k = omega arith in
      subst (λ j. length (get_or library j d).name ≤ new) e
      (subst (λ (n : Named). length n.name ≤ new) (sym (get_or_from_slice_get library i here d at)) fits)
]

-- a name that is longer than all isn't there
pub longer_is_new : (library : List Named) (name : List ℕ) (most : ℕ)
    → All (λ named. length named.name ≤ most) library → most < length name → IsNone (entry_of library name)
longer_is_new [] name most fit longer = refl
longer_is_new (first ∷ more) name most fit longer =
    by (bytes_eq name first.name) refl (longer_is_new more name most (All-tail (λ (n : Named). length n.name ≤ most) first more fit) longer)
  where
    by : (b : Bool) → bytes_eq name first.name ≡ b → IsNone (entry_of more name)
        → IsNone (cond (bytes_eq name first.name) (Some first.entry) (entry_of more name))
    by true same later =
        let e : name ≡ first.name = (bytes_eq-Decides name first.name).0 same in
        let l : length name ≡ length first.name = ap (λ xs. length xs) e in
        let f : length first.name ≤ most = All-head (λ (n : Named). length n.name ≤ most) first more fit in
        absurd (omega arith)
    by false other later = rw other later

-- one space more than this
abbrev spaces : ℕ → List ℕ
spaces n = replicate n 32 ++ 32 ∷ []

-- spaces have no case
spaces_upper : (n : ℕ) → upper_case (replicate n 32) ≡ replicate n 32
spaces_upper zero = refl
spaces_upper (suc n) = ap (λ rest. 32 ∷ rest) (spaces_upper n)

pub new_name_upper : (n : ℕ) → upper_case (replicate n 32 ++ 32 ∷ []) ≡ replicate n 32 ++ 32 ∷ []
new_name_upper n = map-append _ (replicate n 32) (32 ∷ []) ∙ ap (λ name. name ++ 32 ∷ []) (spaces_upper n)

pub new_name_fresh : (library : List Named) (most : ℕ) → All (λ named. length named.name ≤ most) library
    → IsNone (entry_of library (spaces most))
new_name_fresh library most fit =
    let first : List ℕ = replicate most 32 in
    let last : List ℕ = 32 ∷ [] in
    let a : length (spaces most) ≡ length first + length last = length-append first last in
    let b : length first ≡ most = length-replicate most 32 in
    let longer : most < length (spaces most) = omega (arith, a, b) in
    longer_is_new library (spaces most) most fit longer

abbrev Kept : Type 0
Kept = Vec ℕ Global × Entry

-- a key differs from each later one
differs : (name : List ℕ) (entries : List Kept) (i : ℕ) (kept : Kept)
    → AllByRecursion (λ (key : Vec ℕ Global). bytes_eq name key.items ≡ false) (keys_of entries)
    → slice_get entries i ≡ Some kept → bytes_eq name kept.0.items ≡ false
differs name [] i kept all at = absurd (let w = slice_get_within [] i kept at in omega arith)
differs name (first ∷ more) zero kept all at =
    subst (λ (k : Kept). bytes_eq name k.0.items ≡ false) (same_Some first kept at) all.0
differs name (first ∷ more) (suc i) kept all at = differs name more i kept all.1 at

flipped : (a b : List ℕ) → bytes_eq a b ≡ false → bytes_eq b a ≡ false
flipped a b other = by (bytes_eq b a) refl
  where
    by : (r : Bool) → bytes_eq b a ≡ r → bytes_eq b a ≡ false
    by false e = e
    by true e = absurd (true≢false (sym ((bytes_eq-Decides a b).1 (sym ((bytes_eq-Decides b a).0 e))) ∙ other))

-- the name at a place isn't among those before it
pub new_at : (entries : List Kept) (i : ℕ) (kept : Kept)
    → IsDistinct (λ (a b : Vec ℕ Global). bytes_eq a.items b.items) (keys_of entries)
    → slice_get entries i ≡ Some kept → IsNone (entry_of (take i (named_entries entries)) kept.0.items)
unfolding IsDistinct
new_at entries zero kept distinct at = refl
new_at [] (suc i) kept distinct at = refl
new_at (first ∷ more) (suc i) kept distinct at =
    let later : IsNone (entry_of (take i (named_entries more)) kept.0.items) = new_at more i kept distinct.1 at in
    let other : bytes_eq kept.0.items first.0.items ≡ false =
    flipped first.0.items kept.0.items (differs first.0.items more i kept distinct.0 at) in
    rw other later

-- a library that has the entries before a place has room for one more
pub copied_room : (library old : List Named) (place : ℕ) → place < length library → length library < 2 ^ 32
    → old ≡ take place library → length old + 1 < 2 ^ 32
copied_room library old place within few before =
    let l : length old ≡ place = ap (λ xs. length xs) before ∙ length-take-le place library (omega arith) in
    omega arith

-- a name and an entry, as a pair
abbrev pair_of : List ℕ → Entry → Named
pair_of name entry = record { name = name; entry = entry }

-- the entry at a place, by its name and what it is
entry_here : (library : List Named) (place : ℕ) (name : List ℕ) (entry : Entry) (d : Named) → place < length library
    → IsSomeAnd (slice_get library place) (λ named. named.name ≡ name)
    → IsSomeAnd (slice_get library place) (λ named. named.entry ≡ entry)
    → get_or library place d ≡ record { name = name; entry = entry }
entry_here library place name entry d within called is = by (slice_get library place) refl called is
  where
    by : (at : Option Named) → slice_get library place ≡ at → IsSomeAnd at (λ named. named.name ≡ name)
        → IsSomeAnd at (λ named. named.entry ≡ entry) → get_or library place d ≡ record { name = name; entry = entry }
    by None at called is = absurd called
    by (Some here) at called is =
        get_or_from_slice_get library place here d at ∙ ap (λ n. pair_of n here.entry) called ∙ ap (pair_of name) is

on_ok : {T E : Type 0} (r : Result T E) (P Q : Type 0) → (P → Q) → OnOk r P → OnOk r Q
on_ok (Ok value) P Q f h = f h
on_ok (Err error) P Q f h = tt

-- with the entry at the place it has those before the next
pub copied_more : {T E : Type 0} (r : Result T E) (library old new : List Named) (place : ℕ) (name key : List ℕ) (entry copied : Entry)
    → place < length library → IsSomeAnd (slice_get library place) (λ named. named.name ≡ name)
    → IsSomeAnd (slice_get library place) (λ named. named.entry ≡ entry) → key ≡ name → copied ≡ entry
    → old ≡ take place library → OnOk r (new ≡ old ++ record { name = key; entry = copied } ∷ [])
    → OnOk r (new ≡ take (place + 1) library)
copied_more r library old new place name key entry copied within called is same_name same before grown =
    on_ok r (new ≡ old ++ record { name = key; entry = copied } ∷ []) (new ≡ take (place + 1) library) (λ e.
    let last : Named = record { name = key; entry = copied } in
    let here : get_or library place last ≡ last = entry_here library place name entry last within called is ∙ ap (λ n. pair_of n entry) (sym same_name) ∙ ap (pair_of key) (sym same) in
    e ∙ ap (λ xs. xs ++ last ∷ []) before ∙ ap (λ x. take place library ++ x ∷ []) (sym here) ∙ sym (take_more library place last within)) grown
