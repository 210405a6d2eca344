-- The texts that report a diagnosis: a header with a record for each candidate, and the line of the counts.
use Rattle.std.specs.Prelude.{ℕ, List, [], ◌∷◌, ◌++◌, map, codes, decimal, None, Some, slice_get}
use Rattle.ca_csv.specs.Records.{written}
use Rattle.ca_cell.specs.Name.{name_of}
use Rattle.ca_flat.specs.declared.chip_defect.ChipDefect.{ChipDefect}
use Rattle.ca_flat.specs.Chip.{cell_at}
use Rattle.ca_linked.specs.Linked.{LinkedChip}
use Rattle.ca_view.specs.Core.{core_of}
use Rattle.ca_chip_report.specs.ChipReport.{instance_name, cell_name}
use Rattle.ca_chip_report.specs.Summary.{with_count}
use Rattle.ca_diag.specs.declared.candidate.Candidate.{Candidate}

-- the first record
abbrev pub header : List (List ℕ)
header = codes "instance" ∷ codes "cell" ∷ codes "defect" ∷ codes "explained" ∷ []

-- the name of a defect in its cell
abbrev pub defect_name : LinkedChip → ChipDefect → List ℕ
defect_name chip defect = name_of (cell_at (core_of chip) defect.instance) defect.defect

-- the record of a defect that explains this many records of the log
abbrev pub record_of : LinkedChip → ChipDefect → ℕ → List (List ℕ)
record_of chip defect explained =
    instance_name (slice_get chip.parts defect.instance) ∷ cell_name (slice_get chip.parts defect.instance)
    ∷ defect_name chip defect ∷ decimal explained ∷ []

-- the record of a candidate among these defects
abbrev pub record_at : LinkedChip → List ChipDefect → Candidate → List (List ℕ)
record_at chip defects one = elim (slice_get defects one.defect) [
  | None ↦ []
  | Some defect ↦ record_of chip defect one.explained
]

-- the text of candidates among these defects
unfoldable pub candidates_text : LinkedChip → List ChipDefect → List Candidate → List ℕ
candidates_text chip defects candidates = written (header ∷ map (record_at chip defects) candidates)

-- the line of this many candidates, defects and records
abbrev pub diagnosis_line : ℕ → ℕ → ℕ → List ℕ
diagnosis_line candidates defects records =
    let first = with_count [] (codes "candidates ") candidates in
    let second = with_count first (codes ", defects ") defects in
    with_count second (codes ", records ") records ++ codes "\n"
