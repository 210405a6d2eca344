-- The records of a log, one after another.
use Rattle.std.proofs.Common.{◌≡◌, ℕ, ◌+◌, Bool, true, false, not, ◌&&◌, List, [], ◌∷◌, ◌++◌}
use Rattle.std.proofs.Common.{◌∙◌, length, refl, Option, Some, None, Result, Ok, Err}
use Rattle.std.specs.Prelude.{if◌then◌else◌}
use Rattle.ca_net.specs.declared.trit.Trit.{Trit}
use Rattle.ca_log.specs.declared.record.LogRecord.{LogRecord}
use Rattle.ca_log.specs.LogText.{is_header, has_record, is_expected, place_in, may_join, with_fields, records_from, log_with}
use Rattle.ca_log.specs.code.Into.{Joins}

module _ (names : List (List ℕ)) (expected : List (List Trit)) where
  -- after a header come the records
  pub after_header : (fields : List (List ℕ)) (records : List (List (List ℕ))) → is_header fields ≡ true
      → log_with names expected (fields ∷ records) ≡ records_from names expected 2 [] records
  unfolding log_with
  after_header fields records is =
      (λ j. if is j then records_from names expected 2 [] records else Err 1)

  pub no_header : (fields : List (List ℕ)) (records : List (List (List ℕ))) → is_header fields ≡ false
      → log_with names expected (fields ∷ records) ≡ Err 1
  unfolding log_with
  no_header fields records is =
      (λ j. if is j then records_from names expected 2 [] records else Err 1)

  pub no_record : log_with names expected [] ≡ Err 1
  unfolding log_with
  no_record = refl

  -- a record that joins the others is read on from
  pub joined_on : (log more : List LogRecord) (row : ℕ) (fields : List (List ℕ)) (records : List (List (List ℕ)))
      → with_fields names expected log fields ≡ Some more
      → records_from names expected row log (fields ∷ records) ≡ records_from names expected (row + 1) more records
  unfolding records_from
  joined_on log more row fields records is =
      (λ j. elim (is j) as (λ _. Result (List LogRecord) ℕ) [ None ↦ Err row | Some more ↦ records_from names expected (row + 1) more records ])

  pub not_joined : (log : List LogRecord) (row : ℕ) (fields : List (List ℕ)) (records : List (List (List ℕ)))
      → with_fields names expected log fields ≡ None
      → records_from names expected row log (fields ∷ records) ≡ Err row
  unfolding records_from
  not_joined log row fields records is =
      (λ j. elim (is j) as (λ _. Result (List LogRecord) ℕ) [ None ↦ Err row | Some more ↦ records_from names expected (row + 1) more records ])

  pub all_read : (log : List LogRecord) (row : ℕ) → records_from names expected row log [] ≡ Ok log
  unfolding records_from
  all_read log row = refl

  -- what fields make of the log
  pub no_place_joins : (log : List LogRecord) (fields : List (List ℕ)) → place_in (length expected) names fields ≡ None
      → with_fields names expected log fields ≡ None
  unfolding with_fields
  no_place_joins log fields is =
      (λ j. elim (is j) as (λ _. Option (List LogRecord)) [ None ↦ None | Some here ↦ if may_join expected log here then Some (log ++ here ∷ []) else None ])

  pub may : (log : List LogRecord) (fields : List (List ℕ)) (here : LogRecord) → place_in (length expected) names fields ≡ Some here
      → may_join expected log here ≡ true → with_fields names expected log fields ≡ Some (log ++ here ∷ [])
  unfolding with_fields
  may log fields here is test =
      (λ j. elim (is j) as (λ _. Option (List LogRecord)) [ None ↦ None | Some here ↦ if may_join expected log here then Some (log ++ here ∷ []) else None ])
      ∙ (λ j. if test j then Some (log ++ here ∷ []) else None)

  pub may_not : (log : List LogRecord) (fields : List (List ℕ)) (here : LogRecord) → place_in (length expected) names fields ≡ Some here
      → may_join expected log here ≡ false → with_fields names expected log fields ≡ None
  unfolding with_fields
  may_not log fields here is test =
      (λ j. elim (is j) as (λ _. Option (List LogRecord)) [ None ↦ None | Some here ↦ if may_join expected log here then Some (log ++ here ∷ []) else None ])
      ∙ (λ j. if test j then Some (log ++ here ∷ []) else None)

-- whether a record joined, by the answer
pub joins : (answer : Bool) (wanted : Option (List LogRecord)) (log : List LogRecord) → answer ≡ true → Joins answer wanted log → wanted ≡ Some log
joins true wanted log is given = given
joins false wanted log is given = absurd cc

pub joins_not : (answer : Bool) (wanted : Option (List LogRecord)) (log : List LogRecord) → answer ≡ false → Joins answer wanted log → wanted ≡ None
joins_not true wanted log is given = absurd cc
joins_not false wanted log is given = given

-- a record that may join isn't there yet
pub is_new : (expected : List (List Trit)) (log : List LogRecord) (here : LogRecord) → may_join expected log here ≡ true
    → has_record here log ≡ false
is_new expected log here test = by (is_expected expected here) (has_record here log) test
  where
    by : (one other : Bool) → (one && not other) ≡ true → other ≡ false
    by true false is = refl
    by true true is = absurd (let clash : false ≡ true = is in cc)
    by false other is = absurd (let clash : false ≡ true = is in cc)
