-- A look-up in a library is one in its map.
use Rattle.std.proofs.Common.{◌≡◌, ℕ, suc, ◌+◌, ◌<◌, ◌^◌, List, Bool, true, false, [], ◌∷◌, ◌++◌, length, drop}
use Rattle.std.proofs.Common.{get_or, refl, sym, ◌∙◌, ap, subst, drop-cons, add-one, true≢false, Bor}
use Rattle.std.proofs.Common.{arith, length-append}
use Rattle.std.specs.Prelude.{Option, Some, None, IsSome, IsSomeAnd, IsNone, IfSome, Vec, cond, slice_get}
use Rattle.std.specs.Option.{option_copied, option_map}
use Rattle.std.specs.List.{All}
use Rattle.std.proofs.lemmas.List.{map-append, length-map}
use Rattle.std.proofs.lemmas.List.Elements.{All-head, All-tail, All-push}
use Rattle.std.proofs.lemmas.Option.{slice_get_within, get_or_from_slice_get, slice_get-map, same_Some}
use Rattle.std.proofs.lemmas.Str.Ascii.{uppercase-uppercase}
use Rattle.std.specs.Char.{to_ascii_uppercase}
use Rattle.indexmap.specs.IndexMap.{IndexMap, insert_entry}
use Rattle.indexmap.proofs.CallerLemmas.{insert_entry-new}
use Rattle.std.proofs.lemmas.Slice.Eq.{bytes_eq-Decides}
use Rattle.std.specs.Str.{bytes_eq}
use Rattle.std.specs.Map.{lookup}
use Rattle.std.specs.declared.alloc.Global.{Global}
use Rattle.ca_cell.specs.declared.library.Entry.{Entry}
use Rattle.ca_cell.specs.Library.{Named, IsEntry, entry_of, IsPlaceOf}
use Rattle.ca_lex.specs.Words.{upper_case}
use Rattle.ca_cell.specs.code.Entries.{named_entries, AllUpperCase, AllEntries}

-- the entry of a name is what the map finds under it
pub entry_of-named : (entries : List (Vec ℕ Global × Entry)) (name : List ℕ)
    → entry_of (named_entries entries) name ≡ lookup (λ (key : Vec ℕ Global). bytes_eq name key.items) entries
entry_of-named [] name = refl
entry_of-named (kept ∷ more) name = ap (λ rest. cond (bytes_eq name kept.0.items) (Some kept.1) rest) (entry_of-named more name)

-- the entry at the place i is the one of its name, among those from there on
pub entry_of-here : (named : List Named) (i : ℕ) (name : List ℕ) (here : Named) → slice_get named i ≡ Some here → here.name ≡ name
    → entry_of (drop i named) name ≡ Some here.entry
entry_of-here named i name here there same =
    let within : i < length named = slice_get_within named i here there in
    let first : get_or named i here ≡ here = get_or_from_slice_get named i here here there in
    let same_bytes : bytes_eq name here.name ≡ true = (bytes_eq-Decides name here.name).1 (sym same) in
    let cut : drop i named ≡ get_or named i here ∷ drop (suc i) named = drop-cons named i here within in
    ap (λ rest. entry_of rest name) (cut ∙ ap (λ n. n ∷ drop (suc i) named) first)
    ∙ ap (λ b. cond b (Some here.entry) (entry_of (drop (suc i) named) name)) same_bytes

-- an entry of another name is passed over
pub entry_of-past : (named : List Named) (i : ℕ) (name : List ℕ) (here : Named) → slice_get named i ≡ Some here → (here.name ≡ name → ⊥)
    → entry_of (drop i named) name ≡ entry_of (drop (i + 1) named) name
entry_of-past named i name here there other =
    let within : i < length named = slice_get_within named i here there in
    let first : get_or named i here ≡ here = get_or_from_slice_get named i here here there in
    let cut : drop i named ≡ get_or named i here ∷ drop (suc i) named = drop-cons named i here within in
    ap (λ rest. entry_of rest name) (cut ∙ ap (λ n. n ∷ drop (suc i) named) first)
    ∙ by (bytes_eq name here.name) refl
    ∙ ap (λ k. entry_of (drop k named) name) (sym (add-one i))
  where
    by : (b : Bool) → bytes_eq name here.name ≡ b
        → cond (bytes_eq name here.name) (Some here.entry) (entry_of (drop (suc i) named) name) ≡ entry_of (drop (suc i) named) name
    by true is = absurd (other (sym ((bytes_eq-Decides name here.name).0 is)))
    by false is = rw is refl

-- a name in upper case stays as it is
pub upper_case-upper_case : (name : List ℕ) → upper_case (upper_case name) ≡ upper_case name
upper_case-upper_case [] = refl
upper_case-upper_case (byte ∷ more) =
    ap (λ first. first ∷ upper_case (upper_case more)) (uppercase-uppercase byte) ∙ ap (λ rest. to_ascii_uppercase byte ∷ rest) (upper_case-upper_case more)

-- what a look-up finds is in the list under a key that passes the test, and keeps what all entries keep
found_kept : {K X : Type 0} (test : K → Bool) (P : K × X → Type 0) (entries : List (K × X)) → All P entries → (value : X)
    → lookup test entries ≡ Some value → (key : K) × (test key ≡ true) × P (key, value)
found_kept test P [] all value found = cc
found_kept {K} {X} test P (kept ∷ more) all value found =
    by (test kept.0) refl (λ rest. found_kept test P more (All-tail P kept more all) value rest)
  where
    by : (b : Bool) → test kept.0 ≡ b → (lookup test more ≡ Some value → (key : K) × (test key ≡ true) × P (key, value))
        → (key : K) × (test key ≡ true) × P (key, value)
    by true passes later =
        let here : Some kept.1 ≡ Some value = sym (ap (λ b. cond b (Some kept.1) (lookup test more)) passes) ∙ found in
        (kept.0, passes, subst (λ v. P (kept.0, v)) (same_Some kept.1 value here) (All-head P kept more all))
    by false fails later = later (sym (ap (λ b. cond b (Some kept.1) (lookup test more)) fails) ∙ found)

-- an entry that is found is what its subcircuit gives
pub entry_kept : (entries : List (Vec ℕ Global × Entry)) (name : List ℕ) (result : Option (Bor Entry)) → AllEntries entries
    → option_copied result ≡ lookup (λ (key : Vec ℕ Global). bytes_eq name key.items) entries → IfSome result (λ entry. IsEntry entry.now)
entry_kept entries name None all found = tt
entry_kept entries name (Some entry) all found =
    (found_kept (λ (key : Vec ℕ Global). bytes_eq name key.items) (λ kept. IsEntry kept.1) entries all entry.now (sym found)).2

-- a name under which an entry is found is in upper case
pub name_in_upper_case : (entries : List (Vec ℕ Global × Entry)) (name : List ℕ) (result : Option (Bor Entry)) → AllUpperCase entries
    → option_copied result ≡ lookup (λ (key : Vec ℕ Global). bytes_eq name key.items) entries → IsSome result → upper_case name ≡ name
name_in_upper_case entries name None all found some = absurd (true≢false (sym some))
name_in_upper_case entries name (Some entry) all found some =
    let kept = found_kept (λ (key : Vec ℕ Global). bytes_eq name key.items) (λ kept. upper_case kept.0.items ≡ kept.0.items) entries all entry.now (sym found) in
    let same : name ≡ kept.0.items = (bytes_eq-Decides name kept.0.items).0 kept.1 in
    subst (λ n. upper_case n ≡ n) (sym same) kept.2

-- the entry at a place, with its name
pub named_at : (entries : List (Vec ℕ Global × Entry)) (i : ℕ) (key : Vec ℕ Global) (entry : Entry) → slice_get entries i ≡ Some (key, entry)
    → slice_get (named_entries entries) i ≡ Some (record { name = key.items; entry = entry })
named_at entries i key entry there =
    slice_get-map (λ (kept : Vec ℕ Global × Entry). record { name = kept.0.items; entry = kept.1 }) entries i
    ∙ ap (option_map (λ (kept : Vec ℕ Global × Entry). record { name = kept.0.items; entry = kept.1 })) there

-- a place that has the entry of a name is its place
pub place_found : (entries : List (Vec ℕ Global × Entry)) (library : List Named) (name : List ℕ) (place : ℕ)
    (key : Vec ℕ Global) (entry : Entry) → named_entries entries ≡ library
    → slice_get entries place ≡ Some (key, entry) → entry_of library name ≡ Some entry
    → IsPlaceOf library name place
place_found entries library name place key entry view there found =
    let at : slice_get library place ≡ Some (record { name = key.items; entry = entry }) =
    subst (λ (named : List Named). slice_get named place ≡ Some (record { name = key.items; entry = entry })) view
    (named_at entries place key entry there) in
    subst (λ (here : Option Named). IsSomeAnd here (λ named. entry_of library name ≡ Some named.entry)) (sym at) found

-- what isn't there is none
none : {T : Type 0} (found : Option T) → IsNone found → found ≡ None
none None lacks = refl
none (Some found) lacks = absurd (true≢false lacks)

-- an entry under a new name goes last
pub added_last : {S : Type 0} (kept : IndexMap (Vec ℕ Global) Entry S) (library : List Named) (key : Vec ℕ Global) (entry : Entry)
    → named_entries kept.entries ≡ library → IsNone (entry_of library key.items)
    → insert_entry (λ (a b : Vec ℕ Global). bytes_eq a.items b.items) kept.entries key entry ≡ kept.entries ++ (key, entry) ∷ []
added_last kept library key entry view fresh =
    insert_entry-new (λ (a b : Vec ℕ Global). bytes_eq a.items b.items) kept key entry
    (sym (entry_of-named kept.entries key.items) ∙ ap (λ named. entry_of named key.items) view ∙ none (entry_of library key.items) fresh)

-- what a library keeps of its entries
abbrev pub IsKept : List (Vec ℕ Global × Entry) → Type 0
IsKept entries = AllUpperCase entries × AllEntries entries × (length entries < 2 ^ 32)

-- it is kept with one entry more, where there is room
pub kept_grown : (entries : List (Vec ℕ Global × Entry)) (key : Vec ℕ Global) (entry : Entry) → IsKept entries
    → upper_case key.items ≡ key.items → IsEntry entry → length (named_entries entries) + 1 < 2 ^ 32 → IsKept (entries ++ (key, entry) ∷ [])
kept_grown entries key entry kept in_case is_entry room =
    let count : length (named_entries entries) ≡ length entries = length-map entries (λ (e : Vec ℕ Global × Entry). record { name = e.0.items; entry = e.1 }) in (
      All-push (λ (e : Vec ℕ Global × Entry). upper_case e.0.items ≡ e.0.items) entries (key, entry) kept.0 in_case,
      All-push (λ (e : Vec ℕ Global × Entry). IsEntry e.1) entries (key, entry) kept.1 is_entry,
      simp length-append (omega arith),
    )

-- and it is seen as one more at the end
pub named_grown : (entries : List (Vec ℕ Global × Entry)) (key : Vec ℕ Global) (entry : Entry) (library : List Named)
    → named_entries entries ≡ library → named_entries (entries ++ (key, entry) ∷ []) ≡ library ++ record { name = key.items; entry = entry } ∷ []
named_grown entries key entry library view =
    map-append (λ (e : Vec ℕ Global × Entry). record { name = e.0.items; entry = e.1 }) entries ((key, entry) ∷ [])
    ∙ ap (λ (named : List Named). named ++ record { name = key.items; entry = entry } ∷ []) view
