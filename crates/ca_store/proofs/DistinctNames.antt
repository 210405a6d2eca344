-- Lists of files of distinct names.
use Rattle.std.proofs.Common.{◌≡◌, ℕ, zero, suc, ◌+◌, ◌<◌, ◌≤◌, nat_lt, nat_eq, Bool, true, cond}
use Rattle.std.proofs.Common.{List, [], ◌∷◌, ◌++◌, length, Option, Some, None, IsNone}
use Rattle.std.proofs.Common.{inl, inr, refl, ap, sym, ◌∙◌, length-append, arith}
use Rattle.std.specs.List.{slice_get, position, position_or_len}
use Rattle.std.specs.Str.{bytes_eq}
use Rattle.std.proofs.lemmas.Option.{slice_get_within, same_Some}
use Rattle.std.proofs.lemmas.Slice.Eq.{bytes_eq-Decides}
use Rattle.std.proofs.lemmas.List.Folds.{position_or_len_push}
use Rattle.std.proofs.lemmas.Bool.Decides.{nat_tests}
use Rattle.std.proofs.lemmas.List.Sums.{prefix_len-le-length}
use Rattle.std.proofs.Math.Nat.{eq-or-lt_of_le}
use Rattle.ca_store.specs.declared.file_map.File.{File}
use Rattle.ca_store.specs.Memory.{place_named, HasDistinctNames}

-- a place, or None for one past the end
abbrev found_place : ℕ → ℕ → Option ℕ
found_place place end = cond (nat_lt place end) (Some place) None

-- an element at the end moves no place that was found before
place_kept : {X : Type 0} (passes : X → Bool) (xs : List X) (y : X) (place : ℕ) → position passes xs ≡ Some place
    → position passes (xs ++ y ∷ []) ≡ Some place
place_kept passes xs y place found =
    rw (position_or_len_push passes xs y, length-append xs (y ∷ []))
    (kept (position_or_len passes xs) (length xs) place (cond (passes y) 0 1) found)
  where
    kept : (p l k step : ℕ) → found_place p l ≡ Some k → found_place (cond (nat_eq p l) (l + step) p) (l + 1) ≡ Some k
    kept p l k step found = grind (arith, nat_tests, found)

-- the first element that passes, at the end
place_last : {X : Type 0} (passes : X → Bool) (xs : List X) (y : X) → position_or_len passes xs ≤ length xs
    → position passes xs ≡ None → passes y ≡ true → position passes (xs ++ y ∷ []) ≡ Some (length xs)
place_last passes xs y within none hit =
    rw (position_or_len_push passes xs y, hit, length-append xs (y ∷ []))
    (last (position_or_len passes xs) (length xs) within none)
  where
    last : (p l : ℕ) → p ≤ l → found_place p l ≡ None → found_place (cond (nat_eq p l) (l + 0) p) (l + 1) ≡ Some l
    last p l within none = grind (arith, nat_tests, none)

-- an element that was in the list before
slice_get_before : {X : Type 0} (xs : List X) (y : X) (place : ℕ) → place < length xs
    → slice_get (xs ++ y ∷ []) place ≡ slice_get xs place
slice_get_before [] y place below = absurd (omega arith)
slice_get_before (x ∷ xs) y zero below = refl
slice_get_before (x ∷ xs) y (suc place) below = slice_get_before xs y place (omega arith)

-- the element at the end
slice_get_end : {X : Type 0} (xs : List X) (y : X) → slice_get (xs ++ y ∷ []) (length xs) ≡ Some y
slice_get_end [] y = refl
slice_get_end (x ∷ xs) y = slice_get_end xs y

-- a list of distinct names stays one under a file of another name
pub distinct_push : (files : List File) (file : File) → IsNone (place_named files file.name) → HasDistinctNames files
    → HasDistinctNames (files ++ file ∷ [])
distinct_push files file lacks distinct place found there =
    elim (eq-or-lt_of_le (within_push files file place found there)) [
      | inr below ↦ place_kept (λ (f : File). bytes_eq f.name found.name) files file place
          (distinct place found (sym (slice_get_before files file place below) ∙ there))
      | inl at_end ↦
          let same : file ≡ found = same_Some _ _ (sym (slice_get_end files file) ∙ ap (slice_get (files ++ file ∷ [])) (sym at_end) ∙ there) in
          ap (place_named (files ++ file ∷ [])) (ap (λ (f : File). f.name) (sym same))
          ∙ place_last (λ (f : File). bytes_eq f.name file.name) files file (prefix_len-le-length _ files) (none_of _ lacks)
          ((bytes_eq-Decides file.name file.name).1 refl)
          ∙ ap Some (sym at_end)
    ]
  where
    within_push : (files : List File) (file : File) (place : ℕ) (found : File)
        → slice_get (files ++ file ∷ []) place ≡ Some found → place ≤ length files
    within_push files file place found there =
        omega (arith, slice_get_within (files ++ file ∷ []) place found there, length-append files (file ∷ []))

    none_of : (place : Option ℕ) → IsNone place → place ≡ None
    none_of None none = refl
    none_of (Some k) none = cc
