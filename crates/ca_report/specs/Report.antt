-- The text of a report: a header, and a record for each defect of the chip, or for each pin bridge.
use Rattle.std.specs.Prelude.{ℕ, ◌<◌, List, [], ◌∷◌, map, codes, decimal, slice_get, unwrap_or}
use Rattle.ca_csv.specs.Records.{written}
use Rattle.ca_report.specs.declared.rows.ReportRow.{ReportRow}
use Rattle.ca_report.specs.declared.verdict.Verdict.{Verdict}
use Rattle.ca_report.specs.declared.verdict.Verdict.TheVariants.{Credited, Unexposable, Untestable, Aborted}
use Rattle.ca_report.specs.declared.verdict.Verdict.TheVariants.{Uncredited, Port, Wide}

-- the first record, which says what the report is of
abbrev pub header_of : List ℕ → List (List ℕ)
header_of what =
    codes "instance" ∷ codes "cell" ∷ what ∷ codes "verdict" ∷ codes "pair" ∷ codes "output" ∷ []

-- the word of a verdict
abbrev pub word_of : Verdict → List ℕ
word_of (Credited pair output) = codes "credited"
word_of Unexposable = codes "unexposable"
word_of Untestable = codes "untestable"
word_of Aborted = codes "aborted"
word_of Uncredited = codes "uncredited"
word_of Port = codes "port"
word_of Wide = codes "wide"

-- the number of the pair that is credited; nothing for another verdict
abbrev pub pair_field : Verdict → List ℕ
pair_field (Credited pair output) = decimal pair
pair_field Unexposable = []
pair_field Untestable = []
pair_field Aborted = []
pair_field Uncredited = []
pair_field Port = []
pair_field Wide = []

-- the name of the output that is credited; nothing for another verdict
abbrev pub output_field : List (List ℕ) → Verdict → List ℕ
output_field outputs (Credited pair output) = unwrap_or (slice_get outputs output) []
output_field outputs Unexposable = []
output_field outputs Untestable = []
output_field outputs Aborted = []
output_field outputs Uncredited = []
output_field outputs Port = []
output_field outputs Wide = []

-- the record of a defect; `outputs` are the names of the observed outputs
abbrev pub record_of : List (List ℕ) → ReportRow → List (List ℕ)
record_of outputs row =
    row.instance ∷ row.cell ∷ row.defect
    ∷ word_of row.verdict ∷ pair_field row.verdict ∷ output_field outputs row.verdict ∷ []

-- the text of a report of what the word says
unfoldable pub text_of : List ℕ → List (List ℕ) → List ReportRow → List ℕ
text_of what outputs rows = written (header_of what ∷ map (record_of outputs) rows)

-- the text of a report of defects
abbrev pub report_text : List (List ℕ) → List ReportRow → List ℕ
report_text outputs rows = text_of (codes "defect") outputs rows

-- the text of a report of pin bridges, whose names stand in place of those of defects
abbrev pub bridges_text : List (List ℕ) → List ReportRow → List ℕ
bridges_text outputs rows = text_of (codes "bridge") outputs rows

-- an output that is credited is one of `outputs` outputs
abbrev pub IsVerdictOf : ℕ → Verdict → Type 0
IsVerdictOf outputs (Credited pair output) = output < outputs
IsVerdictOf outputs Unexposable = Unit {0}
IsVerdictOf outputs Untestable = Unit {0}
IsVerdictOf outputs Aborted = Unit {0}
IsVerdictOf outputs Uncredited = Unit {0}
IsVerdictOf outputs Port = Unit {0}
IsVerdictOf outputs Wide = Unit {0}

-- the output that the row credits, if it does, is one of `outputs` outputs
abbrev pub IsRowOf : ℕ → ReportRow → Type 0
IsRowOf outputs row = IsVerdictOf outputs row.verdict
