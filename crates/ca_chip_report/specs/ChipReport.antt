-- The report of a linked chip: of each of its defects the instance, the cell, the name and the verdict.
use Rattle.std.specs.Prelude.{ℕ, ◌≡◌, ◌<◌, List, [], length, map, Option, Some, None, slice_get}
use Rattle.std.specs.List.{All}
use Rattle.std.specs.Simd.Lanes.{zip2}
use Rattle.ca_cell.specs.Name.{name_of}
use Rattle.ca_flat.specs.declared.chip_defect.ChipDefect.{ChipDefect}
use Rattle.ca_flat.specs.Chip.{cell_at, IsDefectIn}
use Rattle.ca_linked.specs.declared.parts.Part.{Part}
use Rattle.ca_linked.specs.Linked.{LinkedChip, outputs_of, IsLibrary}
use Rattle.ca_view.specs.Core.{core_of}
use Rattle.ca_credit.specs.declared.verdict.Verdict.{Verdict}
use Rattle.ca_credit.specs.declared.verdict.Verdict.TheVariants.{Credited, Unexposable, Untestable, Aborted}
use Rattle.ca_report.specs.declared.rows.ReportRow.{ReportRow}
use Rattle.ca_report.specs.declared.verdict.Verdict as report
use Rattle.ca_report.specs.declared.verdict.Verdict.TheVariants as reported

-- the verdict in a report: without the code of a search that was aborted
abbrev pub reported_of : Verdict → report.Verdict
reported_of (Credited pair output) = reported.Credited pair output
reported_of Unexposable = reported.Unexposable
reported_of Untestable = reported.Untestable
reported_of (Aborted code) = reported.Aborted

-- the name of an instance, as the netlist spells it
abbrev pub instance_name : Option Part → List ℕ
instance_name None = []
instance_name (Some part) = part.name

-- the name of its cell
abbrev pub cell_name : Option Part → List ℕ
cell_name None = []
cell_name (Some part) = part.cell

-- the row of a defect with what is reported of it
abbrev pub row_of : LinkedChip → ChipDefect → report.Verdict → ReportRow
row_of chip defect verdict = record {
  instance = instance_name (slice_get chip.parts defect.instance);
  cell = cell_name (slice_get chip.parts defect.instance);
  defect = name_of (cell_at (core_of chip) defect.instance) defect.defect;
  verdict = verdict;
}

-- the rows of defects, each with what is reported of it, in order
abbrev pub rows_of : LinkedChip → List ChipDefect → List report.Verdict → List ReportRow
rows_of chip defects reported = zip2 (row_of chip) defects reported

-- those of defects with their verdicts
abbrev pub report_rows : LinkedChip → List ChipDefect → List Verdict → List ReportRow
report_rows chip defects verdicts = rows_of chip defects (map reported_of verdicts)

-- the defect is one of a library instance's cell
pub record IsGateDefect (chip : LinkedChip) (defect : ChipDefect) : Type 0 where
  pub is_defect : IsDefectIn (core_of chip) defect
  pub is_gate : IsLibrary chip defect.instance

-- the output that the verdict credits, if it does, is one of this many outputs
abbrev pub IsVerdictWithin : ℕ → Verdict → Type 0
IsVerdictWithin outputs (Credited pair output) = output < outputs
IsVerdictWithin outputs Unexposable = Unit {0}
IsVerdictWithin outputs Untestable = Unit {0}
IsVerdictWithin outputs (Aborted code) = Unit {0}

-- the defects are those of library instances of the chip, there is a verdict for each, and each output that
-- is credited is an observed one
pub record AreReported (chip : LinkedChip) (defects : List ChipDefect)
    (verdicts : List Verdict) : Type 0 where
  pub defects_are : All (IsGateDefect chip) defects
  pub one_each : length verdicts ≡ length defects
  pub outputs : All (IsVerdictWithin (length (outputs_of chip))) verdicts
