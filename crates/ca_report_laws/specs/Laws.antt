-- A law of reports, of defects and of pin bridges.
use Rattle.std.specs.Prelude.{ℕ, ◌≡◌, List, ◌∷◌, map}
use Rattle.ca_csv.specs.Records.{text_records}
use Rattle.ca_report.specs.declared.rows.ReportRow.{ReportRow}
use Rattle.ca_report.specs.Report.{header_of, record_of, text_of}

-- the records of a report's text are the header and the record of each row, field by field, whatever bytes
-- the names have
abbrev pub ReportIsReadBack : Type 0
ReportIsReadBack =
    (what : List ℕ) (outputs : List (List ℕ)) (rows : List ReportRow)
    → text_records (text_of what outputs rows) ≡ header_of what ∷ map (record_of outputs) rows
