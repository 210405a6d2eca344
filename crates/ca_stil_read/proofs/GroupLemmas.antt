-- Groups whose names may be in a set.
use Rattle.std.proofs.Common.{◌≡◌, ℕ, ◌==◌, Bool, true, false, ◌&&◌, ◌||◌, List, [], ◌∷◌, ◌++◌, length, map}
use Rattle.std.proofs.Common.{get_or, take, drop, ◌≤◌, ◌-◌, arith, append_assoc, refl, sym, ap, ◌∙◌}
use Rattle.std.specs.Prelude.{if◌then◌else◌}
use Rattle.std.specs.List.{list_all, list_any}
use Rattle.std.specs.Str.{bytes_eq}
use Rattle.std.proofs.lemmas.Slice.Eq.{bytes_eq-Decides}
use Rattle.ca_names.specs.Names.{has_name, with_name}
use Rattle.std.proofs.lemmas.List.{take_rest}
use Rattle.ca_stil.specs.declared.chip.Signal as code
use Rattle.ca_stil_form.specs.Frame.{Names, is_group, fits_in_number, goes, names_of}
use Rattle.ca_stil_form.specs.Value.{signal_seen}
use Rattle.ca_stil_read.proofs.ExpectLemmas.{split_first}

-- sets of the same names are the same to a group
pub fits_same : (count : ℕ) (set pool : Names) → ((name : List ℕ) → has_name name set ≡ has_name name pool)
    → fits_in_number count set ≡ fits_in_number count pool
fits_same count set pool same = λ j names. is_group names && ((length names == count) && list_all (λ name. same name j) names)

any_append : (test : List ℕ → Bool) (names more : Names) → list_any test (names ++ more) ≡ (list_any test names || list_any test more)
any_append test [] more = refl
any_append test (name ∷ names) more =
    ap (λ (given : Bool). test name || given) (any_append test names more) ∙ regroup (test name)
  where
    regroup : (first : Bool) → (first || (list_any test names || list_any test more)) ≡ ((first || list_any test names) || list_any test more)
    regroup true = refl
    regroup false = refl

-- a name added to a set, and those that are still to come
pub set_step : (name new : List ℕ) (set more : Names)
    → (has_name name (with_name new set) || has_name name more) ≡ (has_name name set || has_name name (new ∷ more))
set_step name new set more = by (has_name new set) refl
  where
    regroup : (one two three : Bool) → ((one || (two || false)) || three) ≡ (one || (two || three))
    regroup true two three = refl
    regroup false true three = refl
    regroup false false three = refl

    by : (there : Bool) → has_name new set ≡ there
        → (has_name name (if there then set else set ++ new ∷ []) || has_name name more) ≡ (has_name name set || has_name name (new ∷ more))
    by true is = by_same (bytes_eq name new) refl
      where
        by_same : (same : Bool) → bytes_eq name new ≡ same
            → (has_name name set || has_name name more) ≡ (has_name name set || (same || has_name name more))
        by_same false other = refl
        by_same true given =
            let equal : name ≡ new = (bytes_eq-Decides name new).0 given in
            let there : has_name name set ≡ true = ap (λ (one : List ℕ). has_name one set) equal ∙ is in
            (λ j. there j || has_name name more) ∙ sym (λ j. there j || true)
    by false is = ap (λ (given : Bool). given || has_name name more) (any_append (bytes_eq name) set (new ∷ []))
        ∙ regroup (has_name name set) (bytes_eq name new) (has_name name more)

-- a set that took the first of the names that are left
pub set_kept : (name item : List ℕ) (set new rest names : Names) → new ≡ with_name item set → 1 ≤ length rest → item ≡ get_or rest 0 item
    → (has_name name set || has_name name rest) ≡ has_name name names
    → (has_name name new || has_name name (take (length rest - 1) (drop 1 rest))) ≡ has_name name names
set_kept name item set new rest names new_is some is so_far =
    (λ j. has_name name (new_is j) || has_name name (take (length rest - 1) (drop 1 rest)))
    ∙ set_step name item set (take (length rest - 1) (drop 1 rest))
    ∙ sym (λ j. has_name name set || has_name name (split_first rest item some is j)) ∙ so_far

-- the names of the signals that are left, and those before them
pub names_kept : (input : Bool) (signal : code.Signal) (names new : Names) (rest signals : List code.Signal)
    → new ≡ names ++ (if goes input (signal_seen signal) then signal.name ∷ [] else []) → 1 ≤ length rest → signal ≡ get_or rest 0 signal
    → names ++ names_of input (map signal_seen rest) ≡ names_of input (map signal_seen signals)
    → new ++ names_of input (map signal_seen (take (length rest - 1) (drop 1 rest))) ≡ names_of input (map signal_seen signals)
unfolding names_of
names_kept input signal names new [] signals new_is some is so_far = absurd (omega (arith, some))
names_kept input signal names new (first ∷ rest) signals new_is some is so_far =
    (λ j. new_is j ++ names_of input (map signal_seen (take_rest (first ∷ rest) 1 j)))
    ∙ append_assoc names (if goes input (signal_seen signal) then signal.name ∷ [] else []) (names_of input (map signal_seen rest))
    ∙ ap (λ (more : Names). names ++ more) (by (goes input (signal_seen signal)))
    ∙ (λ j. names ++ names_of input (signal_seen (is j) ∷ map signal_seen rest)) ∙ so_far
  where
    by : (test : Bool) → (if test then signal.name ∷ [] else []) ++ names_of input (map signal_seen rest)
        ≡ (if test then signal.name ∷ names_of input (map signal_seen rest) else names_of input (map signal_seen rest))
    by true = refl
    by false = refl
