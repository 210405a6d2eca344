-- The records of a report, one after another.
use Rattle.std.proofs.Common.{◌≡◌, ℕ, suc, ◌+◌, ◌≤◌, List, ◌∷◌, ◌++◌, ◌∙◌, length, map, drop, drop-cons, ap}
use Rattle.std.proofs.Common.{arith, sym, append_assoc, append-nil, get_or}
use Rattle.std.specs.Prelude.{IsSomeAnd, slice_get}
use Rattle.std.proofs.lemmas.List.{drop_all}
use Rattle.std.proofs.lemmas.Option.{get_or_from_slice_get, slice_get_within}
use Rattle.csv.specs.Writing.{default_writer, row_text}
use Rattle.ca_csv.specs.Records.{written}
use Rattle.ca_report.specs.declared.rows.ReportRow.{ReportRow}
use Rattle.ca_report.proofs.RowLemmas.{reported}
use Rattle.ca_report.specs.Report.{header_of, record_of, text_of}

-- one record more was written
pub one_more : (outputs : List (List ℕ)) (k : ℕ) (rows : List ReportRow) (text all : List ℕ) (fields : List (List ℕ))
    → IsSomeAnd (slice_get rows k) (λ row. fields ≡ record_of outputs row)
    → text ++ written (map (record_of outputs) (drop k rows)) ≡ all
    → (text ++ row_text default_writer fields) ++ written (map (record_of outputs) (drop (k + 1) rows)) ≡ all
one_more outputs k rows text all fields filled before =
    let row = reported (slice_get rows k) (λ row. fields ≡ record_of outputs row) filled in
    let below = slice_get_within rows k row.0 row.1 in
    let is : get_or rows k row.0 ≡ row.0 = get_or_from_slice_get rows k row.0 row.0 row.1 in
    let next : suc k ≡ k + 1 = omega arith in
    let step : drop k rows ≡ row.0 ∷ drop (k + 1) rows =
    drop-cons rows k row.0 below ∙ (λ j. is j ∷ drop (next j) rows) in
    let more = written (map (record_of outputs) (drop (k + 1) rows)) in
    ap (λ (one : List (List ℕ)). (text ++ row_text default_writer one) ++ more) row.2
    ∙ (append_assoc text (row_text default_writer (record_of outputs row.0)) more
    ∙ (ap (λ (left : List ReportRow). text ++ written (map (record_of outputs) left)) (sym step) ∙ before))

-- the header was written
pub header_first : (what : List ℕ) (outputs : List (List ℕ)) (rows : List ReportRow) (fields : List (List ℕ)) → fields ≡ header_of what
    → row_text default_writer fields ++ written (map (record_of outputs) rows) ≡ text_of what outputs rows
unfolding text_of
header_first what outputs rows fields filled =
    ap (λ (one : List (List ℕ)). row_text default_writer one ++ written (map (record_of outputs) rows)) filled

-- all was written
pub no_more : (outputs : List (List ℕ)) (k : ℕ) (rows : List ReportRow) (text all : List ℕ) → length rows ≤ k
    → text ++ written (map (record_of outputs) (drop k rows)) ≡ all → text ≡ all
no_more outputs k rows text all past before =
    sym (ap (λ (left : List ReportRow). text ++ written (map (record_of outputs) left)) (drop_all k rows past)
    ∙ append-nil text) ∙ before
