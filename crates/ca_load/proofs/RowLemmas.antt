-- The rows that a table of scan cells reads as have different cells.
use Rattle.std.proofs.Common.{◌≡◌, ℕ, Bool, true, false, List, [], ◌∷◌, ◌++◌, map, refl, sym, subst, Option}
use Rattle.std.proofs.Common.{Some, None, Result, Ok, Err}
use Rattle.std.specs.Prelude.{if◌then◌else◌}
use Rattle.std.specs.List.{IsDistinct}
use Rattle.std.specs.Str.{bytes_eq}
use Rattle.std.proofs.lemmas.List.{map-append}
use Rattle.ca_lex.specs.FirstFault.{steps_from}
use Rattle.ca_wiring.specs.declared.scan_row.ScanRow.{ScanRow}
use Rattle.ca_verilog.proofs.DistinctLemmas.{distinct_grown}
use Rattle.ca_scan.specs.Table.{cells_of, may_join, with_fields, row_with, Numbered, numbered, record_step}
use Rattle.ca_scan.specs.Table.{is_header, rows_of, table_of}
use Rattle.ca_scan.proofs.TableLemmas.{is_new}

-- these rows have different cells
abbrev Differ : List ScanRow → Type 0
Differ rows = IsDistinct bytes_eq (cells_of rows)

-- a row that may join keeps the cells different
joined : (rows : List ScanRow) (fields : List (List ℕ)) (row : ScanRow) → Differ rows
    → may_join (cells_of rows) fields row ≡ true → Differ (rows ++ row ∷ [])
joined rows fields row differ may =
    subst (IsDistinct bytes_eq) (sym (map-append (λ (one : ScanRow). one.cell) rows (row ∷ [])))
    (distinct_grown (cells_of rows) row.cell differ (is_new (cells_of rows) fields row may))

with_fields_differ : (rows more : List ScanRow) (fields : List (List ℕ)) → Differ rows
    → with_fields rows fields ≡ Some more → Differ more
unfolding with_fields
with_fields_differ rows more fields differ is = by (row_with fields) is
  where
    by_test : (row : ScanRow) (test : Bool) → may_join (cells_of rows) fields row ≡ test
        → (if test then Some (rows ++ row ∷ []) else None) ≡ Some more → Differ more
    by_test row true may is =
        let same : rows ++ row ∷ [] ≡ more = cc in
        subst Differ same (joined rows fields row differ may)
    by_test row false may is = absurd cc

    by : (found : Option ScanRow)
        → elim found as (λ _. Option (List ScanRow)) [
          | None ↦ None
          | Some row ↦ if may_join (cells_of rows) fields row then Some (rows ++ row ∷ []) else None
        ] ≡ Some more → Differ more
    by None is = absurd cc
    by (Some row) is = by_test row (may_join (cells_of rows) fields row) refl is

steps_differ : (rows : List ScanRow) (records : List Numbered) (all : List ScanRow) → Differ rows
    → steps_from record_step rows records ≡ Ok all → Differ all
unfolding steps_from
steps_differ rows [] all differ is = let same : rows ≡ all = cc in subst Differ same differ
steps_differ rows (here ∷ records) all differ is =
    by (with_fields rows here.fields) refl (λ more more_differ. steps_differ more records all more_differ) is
  where
    by : (found : Option (List ScanRow)) → with_fields rows here.fields ≡ found
        → ((more : List ScanRow) → Differ more → steps_from record_step more records ≡ Ok all → Differ all)
        → elim (elim found as (λ _. Result (List ScanRow) ℕ) [ None ↦ Err here.row | Some more ↦ Ok more ])
        as (λ _. Result (List ScanRow) ℕ) [
          | Ok next ↦ steps_from record_step next records
          | Err fault ↦ Err fault
        ] ≡ Ok all → Differ all
    by None found on is = absurd cc
    by (Some more) found on is = on more (with_fields_differ rows more here.fields differ found) is

rows_differ : (records : List (List (List ℕ))) (all : List ScanRow) → rows_of records ≡ Ok all → Differ all
unfolding IsDistinct
rows_differ [] all is = absurd cc
rows_differ (fields ∷ records) all is = by (is_header fields) is
  where
    by : (test : Bool) → (if test then steps_from record_step [] (numbered 2 records) else Err 1) ≡ Ok all
        → Differ all
    by true is = steps_differ [] (numbered 2 records) all tt is
    by false is = absurd cc

pub table_differs : (text : List ℕ) (rows : List ScanRow) → table_of text ≡ Ok rows
    → IsDistinct bytes_eq (map (λ row. row.cell) rows)
unfolding table_of
table_differs text rows is = rows_differ _ rows is
