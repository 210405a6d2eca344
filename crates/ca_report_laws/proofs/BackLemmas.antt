-- Reports are read back.
use Rattle.std.proofs.Common.{◌≡◌, ◌∙◌, ℕ, List, [], ◌∷◌, map, refl, ap}
use Rattle.csv.specs.Reading.{records, default_config, strip_bom}
use Rattle.ca_csv.proofs.CsvLemmas.{AreNotEmpty, records_written}
use Rattle.ca_report.specs.declared.rows.ReportRow.{ReportRow}
use Rattle.ca_report.specs.Report.{header_of, record_of, text_of}
use Rattle.ca_report_laws.specs.Laws.{ReportIsReadBack}

-- each record has a field
rows_not_empty : (outputs : List (List ℕ)) (rows : List ReportRow) → AreNotEmpty (map (record_of outputs) rows)
rows_not_empty outputs [] = tt
rows_not_empty outputs (row ∷ rows) = rows_not_empty outputs rows

-- the text begins with a letter, and so with no byte order mark
no_mark : (what : List ℕ) (outputs : List (List ℕ)) (rows : List ReportRow) → strip_bom (text_of what outputs rows) ≡ text_of what outputs rows
unfolding strip_bom text_of
no_mark what outputs rows = refl

pub reads_back : ReportIsReadBack
unfolding text_of
reads_back what outputs rows =
    ap (records default_config) (no_mark what outputs rows)
    ∙ records_written (header_of what ∷ map (record_of outputs) rows) (rows_not_empty outputs rows)
