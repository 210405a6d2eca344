-- What a log that was read keeps.
use Rattle.std.proofs.Common.{◌≡◌, ◌≢◌, ℕ, ◌+◌, ◌<◌, ◌^◌, Bool, true, false, not, ◌&&◌, List, [], ◌∷◌, ◌++◌}
use Rattle.std.proofs.Common.{◌∙◌, length, ap, arith, refl, sym, subst, true≢false}
use Rattle.std.specs.Prelude.{Option, Some, None, Result, Ok, Err, if◌then◌else◌}
use Rattle.std.specs.List.{All, AllPairs}
use Rattle.std.proofs.lemmas.Bool.{eq-eqb}
use Rattle.std.proofs.lemmas.List.Elements.{All-nil, All-push}
use Rattle.std.proofs.lemmas.List.Folds.{list_any_at}
use Rattle.std.proofs.lemmas.List.Quantifiers.{all_pairs_push}
use Rattle.ca_net.specs.declared.trit.Trit.{Trit}
use Rattle.ca_log.specs.declared.record.LogRecord.{LogRecord}
use Rattle.ca_log.specs.LogText.{is_header, is_same, has_record, is_expected, place_in, may_join, with_fields, records_from}
use Rattle.ca_log.specs.LogText.{log_with, IsLogged, IsLog}
use Rattle.ca_log.proofs.FieldLemmas.{listed_in, named_in}
use Rattle.ca_log.proofs.LogLemmas.{is_new}

-- a place is the same as itself
same_place : (here : LogRecord) → is_same here here ≡ true
same_place here = (λ j. eq-eqb here.pair here.pair refl j && eq-eqb here.output here.output refl j)

-- what a log keeps, but that it is short
record IsKept (names : List (List ℕ)) (expected : List (List Trit)) (log : List LogRecord) : Type 0 where
  logged : All (IsLogged names expected) log
  different : AllPairs (λ one other. one ≢ other) log

module _ (names : List (List ℕ)) (expected : List (List Trit)) where
  -- one more place
  one_more : (log : List LogRecord) (fields : List (List ℕ)) (here : LogRecord)
      → place_in (length expected) names fields ≡ Some here → may_join expected log here ≡ true
      → IsKept names expected log → IsKept names expected (log ++ here ∷ [])
  one_more log fields here is may kept = record {
    logged = All-push (IsLogged names expected) log here kept.logged (record {
      listed = listed_in (length expected) names fields here is;
      observed = named_in (length expected) names fields here is;
      is_definite = definite (is_expected expected here) (has_record here log) may;
    });
    different = all_pairs_push (λ one other. one ≢ other) log here kept.different (λ k d below same.
        true≢false (sym (list_any_at (is_same here) log k d below
        (ap (is_same here) same ∙ same_place here)) ∙ is_new expected log here may));
  }
    where
      definite : (one other : Bool) → (one && not other) ≡ true → one ≡ true
      definite true other test = refl
      definite false other test = test

  joined : (log more : List LogRecord) (fields : List (List ℕ)) → with_fields names expected log fields ≡ Some more
      → IsKept names expected log → IsKept names expected more
  unfolding with_fields
  joined log more fields is kept = by (place_in (length expected) names fields) refl is
    where
      by_test : (here : LogRecord) → place_in (length expected) names fields ≡ Some here → (test : Bool)
          → may_join expected log here ≡ test → (if test then Some (log ++ here ∷ []) else None) ≡ Some more
          → IsKept names expected more
      by_test here named true may found =
          let same : log ++ here ∷ [] ≡ more = cc in
          subst (IsKept names expected) same (one_more log fields here named may kept)
      by_test here named false may found = absurd (let clash : None ≡ Some more = found in cc)

      by : (o : Option LogRecord) → place_in (length expected) names fields ≡ o
          → elim o as (λ _. Option (List LogRecord)) [
            | None ↦ None
            | Some here ↦ if may_join expected log here then Some (log ++ here ∷ []) else None
          ] ≡ Some more → IsKept names expected more
      by None named found = absurd (let clash : None ≡ Some more = found in cc)
      by (Some here) named found = by_test here named (may_join expected log here) refl found

  kept_from : (row : ℕ) (log : List LogRecord) (records : List (List (List ℕ))) (read : List LogRecord)
      → records_from names expected row log records ≡ Ok read → IsKept names expected log → IsKept names expected read
  unfolding records_from
  kept_from row log [] read is kept = let same : log ≡ read = cc in subst (IsKept names expected) same kept
  kept_from row log (fields ∷ records) read is kept =
      by (with_fields names expected log fields) refl (λ more. kept_from (row + 1) more records read) is
    where
      by : (o : Option (List LogRecord)) → with_fields names expected log fields ≡ o
          → ((more : List LogRecord) → records_from names expected (row + 1) more records ≡ Ok read
          → IsKept names expected more → IsKept names expected read)
          → elim o as (λ _. Result (List LogRecord) ℕ) [
            | None ↦ Err row
            | Some more ↦ records_from names expected (row + 1) more records
          ] ≡ Ok read → IsKept names expected read
      by None joins rest found = absurd (let clash : Err row ≡ Ok read = found in cc)
      by (Some more) joins rest found = rest more found (joined log more fields joins kept)

  kept : (records : List (List (List ℕ))) (read : List LogRecord) → log_with names expected records ≡ Ok read
      → IsKept names expected read
  unfolding log_with
  kept [] read is = absurd (let clash : Err 1 ≡ Ok read = is in cc)
  kept (fields ∷ records) read is = by (is_header fields) is
    where
      none : IsKept names expected []
      none = record { logged = All-nil (IsLogged names expected); different = λ i j d less below. absurd (omega (arith, below)) }

      by : (test : Bool) → (if test then records_from names expected 2 [] records else Err 1) ≡ Ok read → IsKept names expected read
      by true found = kept_from 2 [] records read found none
      by false found = absurd (let clash : Err 1 ≡ Ok read = found in cc)

  -- a log that was read is one
  pub read_is_log : (records : List (List (List ℕ))) (read : List LogRecord) → log_with names expected records ≡ Ok read
      → length read < 2 ^ 32 → IsLog names expected read
  read_is_log records read is few =
      let all = kept records read is in
      record { logged = all.logged; different = all.different; few = few }
