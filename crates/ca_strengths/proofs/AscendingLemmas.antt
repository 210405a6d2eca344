-- A table that was read ascends.
use Rattle.std.proofs.Common.{◌≡◌, ℕ, ◌+◌, ◌<◌, ◌∙◌, Bool, true, false, ◌&&◌, List, [], ◌∷◌, ◌++◌, length, get_or, arith}
use Rattle.std.proofs.Common.{refl, sym, Option, Some, None, Result, Ok, Err, true≢false}
use Rattle.std.specs.Prelude.{if◌then◌else◌, nat_lt, IfOk}
use Rattle.std.specs.List.{AllPairs, list_all}
use Rattle.std.proofs.lemmas.List.Folds.{list_all_at}
use Rattle.std.proofs.lemmas.List.Quantifiers.{all_pairs_push}
use Rattle.ca_cell.specs.declared.strength.Ratio.{Ratio}
use Rattle.ca_cell.specs.declared.strength.StrengthTable.{StrengthTable}
use Rattle.ca_strengths.specs.declared.fault.StrengthFault.{StrengthFault}
use Rattle.ca_strengths.specs.StrengthText.{is_header, ratio_in, is_above, may_follow, with_fields, table_with, ratios_from}
use Rattle.ca_strengths.specs.StrengthText.{strengths_with, Reads, IsAscending}

-- each is less than each after it
abbrev Ascend : List Ratio → Type 0
Ascend ratios = AllPairs (λ one other. is_above other one ≡ true) ratios

above_each : (ratios : List Ratio) (ratio : Ratio) → may_follow ratios ratio ≡ true → (k : ℕ) (d : Ratio) → k < length ratios
    → is_above ratio (get_or ratios k d) ≡ true
above_each ratios ratio may k d below = by (is_above ratio (get_or ratios k d)) refl
  where
    all : (few every : Bool) → (few && every) ≡ true → every ≡ true
    all true every test = test
    all false every test = absurd (let clash : false ≡ true = test in cc)

    by : (test : Bool) → is_above ratio (get_or ratios k d) ≡ test → test ≡ true
    by true is = refl
    by false is = absurd (true≢false (sym (all (nat_lt (length ratios) 5) (list_all (is_above ratio) ratios) may)
        ∙ list_all_at (is_above ratio) ratios k d below is))

-- one ratio more
joined : (ratios more : List Ratio) (fields : List (List ℕ)) → with_fields ratios fields ≡ Some more → Ascend ratios → Ascend more
unfolding with_fields
joined ratios more fields is ascend = by (ratio_in fields) is
  where
    by_test : (ratio : Ratio) (test : Bool) → may_follow ratios ratio ≡ test
        → (if test then Some (ratios ++ ratio ∷ []) else None) ≡ Some more → Ascend more
    by_test ratio true may found =
        let same : ratios ++ ratio ∷ [] ≡ more = cc in
        rw (sym same) (all_pairs_push (λ one other. is_above other one ≡ true) ratios ratio ascend (above_each ratios ratio may))
    by_test ratio false may found = absurd (let clash : None ≡ Some more = found in cc)

    by : (o : Option Ratio) → elim o as (λ _. Option (List Ratio)) [
      | None ↦ None
      | Some ratio ↦ if may_follow ratios ratio then Some (ratios ++ ratio ∷ []) else None
    ] ≡ Some more → Ascend more
    by None found = absurd (let clash : None ≡ Some more = found in cc)
    by (Some ratio) found = by_test ratio (may_follow ratios ratio) refl found

-- five that ascend are a table that does
of_five : (ratios : List Ratio) (table : StrengthTable) → table_with ratios ≡ Some table → Ascend ratios → IsAscending table
unfolding table_with
of_five (a ∷ b ∷ c ∷ d ∷ e ∷ []) table is ascend =
    let same : record { first = a; second = b; third = c; fourth = d; fifth = e } ≡ table = cc in
    rw (sym same) (record {
      second = ascend 0 1 a (omega arith) (omega arith);
      third = ascend 1 2 a (omega arith) (omega arith);
      fourth = ascend 2 3 a (omega arith) (omega arith);
      fifth = ascend 3 4 a (omega arith) (omega arith);
    })
of_five [] table is ascend = absurd (let clash : None ≡ Some table = is in cc)
of_five (a ∷ []) table is ascend = absurd (let clash : None ≡ Some table = is in cc)
of_five (a ∷ b ∷ []) table is ascend = absurd (let clash : None ≡ Some table = is in cc)
of_five (a ∷ b ∷ c ∷ []) table is ascend = absurd (let clash : None ≡ Some table = is in cc)
of_five (a ∷ b ∷ c ∷ d ∷ []) table is ascend = absurd (let clash : None ≡ Some table = is in cc)
of_five (a ∷ b ∷ c ∷ d ∷ e ∷ f ∷ more) table is ascend = absurd (let clash : None ≡ Some table = is in cc)

read_from : (row : ℕ) (ratios : List Ratio) (records : List (List (List ℕ))) (table : StrengthTable)
    → ratios_from row ratios records ≡ Ok table → Ascend ratios → IsAscending table
unfolding ratios_from
read_from row ratios [] table is ascend = by (table_with ratios) refl is
  where
    by : (o : Option StrengthTable) → table_with ratios ≡ o
        → elim o as (λ _. Result StrengthTable ℕ) [ None ↦ Err row | Some table ↦ Ok table ] ≡ Ok table → IsAscending table
    by None with found = absurd (let clash : Err row ≡ Ok table = found in cc)
    by (Some other) with found =
        let same : other ≡ table = cc in
        rw (sym same) (of_five ratios other with ascend)
read_from row ratios (fields ∷ records) table is ascend =
    by (with_fields ratios fields) refl (λ more. read_from (row + 1) more records table) is
  where
    by : (o : Option (List Ratio)) → with_fields ratios fields ≡ o
        → ((more : List Ratio) → ratios_from (row + 1) more records ≡ Ok table → Ascend more → IsAscending table)
        → elim o as (λ _. Result StrengthTable ℕ) [ None ↦ Err row | Some more ↦ ratios_from (row + 1) more records ] ≡ Ok table
        → IsAscending table
    by None with rest found = absurd (let clash : Err row ≡ Ok table = found in cc)
    by (Some more) with rest found = rest more found (joined ratios more fields with ascend)

read : (records : List (List (List ℕ))) (table : StrengthTable) → strengths_with records ≡ Ok table → IsAscending table
unfolding strengths_with
read [] table is = absurd (let clash : Err 1 ≡ Ok table = is in cc)
read (fields ∷ records) table is = by (is_header fields) is
  where
    none : Ascend []
    none i j d less below = absurd (omega (arith, below))

    by : (test : Bool) → (if test then ratios_from 2 [] records else Err 1) ≡ Ok table → IsAscending table
    by true found = read_from 2 [] records table found none
    by false found = absurd (let clash : Err 1 ≡ Ok table = found in cc)

-- an answer
pub answered : (records : List (List (List ℕ))) (answer : Result StrengthTable StrengthFault) → Reads answer (strengths_with records)
    → IfOk answer IsAscending
answered records (Ok table) reads = read records table reads
answered records (Err fault) reads = tt
