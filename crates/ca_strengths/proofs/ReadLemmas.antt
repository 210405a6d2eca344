-- The records of a strength table, one after another.
use Rattle.std.proofs.Common.{◌≡◌, ℕ, ◌+◌, Bool, true, false, List, [], ◌∷◌, ◌++◌, ◌∙◌, refl, Option, Some, None}
use Rattle.std.proofs.Common.{Result, Ok, Err}
use Rattle.std.specs.Prelude.{if◌then◌else◌}
use Rattle.ca_cell.specs.declared.strength.Ratio.{Ratio}
use Rattle.ca_cell.specs.declared.strength.StrengthTable.{StrengthTable}
use Rattle.ca_strengths.specs.StrengthText.{is_header, ratio_in, may_follow, with_fields, table_with, ratios_from}
use Rattle.ca_strengths.specs.StrengthText.{strengths_with}
use Rattle.ca_strengths.specs.code.Reading.{Joins}

-- after a header come the ratios
pub after_header : (fields : List (List ℕ)) (records : List (List (List ℕ))) → is_header fields ≡ true
    → strengths_with (fields ∷ records) ≡ ratios_from 2 [] records
unfolding strengths_with
after_header fields records is = (λ j. if is j then ratios_from 2 [] records else Err 1)

pub no_header : (fields : List (List ℕ)) (records : List (List (List ℕ))) → is_header fields ≡ false
    → strengths_with (fields ∷ records) ≡ Err 1
unfolding strengths_with
no_header fields records is = (λ j. if is j then ratios_from 2 [] records else Err 1)

pub no_record : strengths_with [] ≡ Err 1
unfolding strengths_with
no_record = refl

-- a ratio that follows the others is read on from
pub joined_on : (ratios more : List Ratio) (row : ℕ) (fields : List (List ℕ)) (records : List (List (List ℕ)))
    → with_fields ratios fields ≡ Some more → ratios_from row ratios (fields ∷ records) ≡ ratios_from (row + 1) more records
unfolding ratios_from
joined_on ratios more row fields records is =
    (λ j. elim (is j) as (λ _. Result StrengthTable ℕ) [ None ↦ Err row | Some more ↦ ratios_from (row + 1) more records ])

pub not_joined : (ratios : List Ratio) (row : ℕ) (fields : List (List ℕ)) (records : List (List (List ℕ)))
    → with_fields ratios fields ≡ None → ratios_from row ratios (fields ∷ records) ≡ Err row
unfolding ratios_from
not_joined ratios row fields records is =
    (λ j. elim (is j) as (λ _. Result StrengthTable ℕ) [ None ↦ Err row | Some more ↦ ratios_from (row + 1) more records ])

-- five ratios are a table
pub all_read : (ratios : List Ratio) (row : ℕ) (table : StrengthTable) → table_with ratios ≡ Some table
    → ratios_from row ratios [] ≡ Ok table
unfolding ratios_from
all_read ratios row table is = (λ j. elim (is j) as (λ _. Result StrengthTable ℕ) [ None ↦ Err row | Some table ↦ Ok table ])

pub one_missing : (ratios : List Ratio) (row : ℕ) → table_with ratios ≡ None → ratios_from row ratios [] ≡ Err row
unfolding ratios_from
one_missing ratios row is = (λ j. elim (is j) as (λ _. Result StrengthTable ℕ) [ None ↦ Err row | Some table ↦ Ok table ])

-- what fields make of the ratios
pub no_ratio_joins : (ratios : List Ratio) (fields : List (List ℕ)) → ratio_in fields ≡ None → with_fields ratios fields ≡ None
unfolding with_fields
no_ratio_joins ratios fields is =
    (λ j. elim (is j) as (λ _. Option (List Ratio)) [ None ↦ None | Some ratio ↦ if may_follow ratios ratio then Some (ratios ++ ratio ∷ []) else None ])

pub may : (ratios : List Ratio) (fields : List (List ℕ)) (ratio : Ratio) → ratio_in fields ≡ Some ratio → may_follow ratios ratio ≡ true
    → with_fields ratios fields ≡ Some (ratios ++ ratio ∷ [])
unfolding with_fields
may ratios fields ratio is test =
    (λ j. elim (is j) as (λ _. Option (List Ratio)) [ None ↦ None | Some ratio ↦ if may_follow ratios ratio then Some (ratios ++ ratio ∷ []) else None ])
    ∙ (λ j. if test j then Some (ratios ++ ratio ∷ []) else None)

pub may_not : (ratios : List Ratio) (fields : List (List ℕ)) (ratio : Ratio) → ratio_in fields ≡ Some ratio → may_follow ratios ratio ≡ false
    → with_fields ratios fields ≡ None
unfolding with_fields
may_not ratios fields ratio is test =
    (λ j. elim (is j) as (λ _. Option (List Ratio)) [ None ↦ None | Some ratio ↦ if may_follow ratios ratio then Some (ratios ++ ratio ∷ []) else None ])
    ∙ (λ j. if test j then Some (ratios ++ ratio ∷ []) else None)

-- whether a ratio joined, by the answer
pub joins : (answer : Bool) (wanted : Option (List Ratio)) (ratios : List Ratio) → answer ≡ true → Joins answer wanted ratios → wanted ≡ Some ratios
joins true wanted ratios is given = given
joins false wanted ratios is given = absurd cc

pub joins_not : (answer : Bool) (wanted : Option (List Ratio)) (ratios : List Ratio) → answer ≡ false → Joins answer wanted ratios → wanted ≡ None
joins_not true wanted ratios is given = absurd cc
joins_not false wanted ratios is given = given
