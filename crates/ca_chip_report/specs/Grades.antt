-- The report of a linked chip's defects with their grades by given pairs.
use Rattle.std.specs.Prelude.{ℕ, ◌≡◌, ◌<◌, List, length, map}
use Rattle.std.specs.List.{All}
use Rattle.ca_flat.specs.declared.chip_defect.ChipDefect.{ChipDefect}
use Rattle.ca_linked.specs.Linked.{LinkedChip, outputs_of}
use Rattle.ca_grade.specs.declared.grade.Grade.{Grade}
use Rattle.ca_grade.specs.declared.grade.Grade.TheVariants.{Credited, Unexposable, Uncredited}
use Rattle.ca_report.specs.declared.rows.ReportRow.{ReportRow}
use Rattle.ca_report.specs.declared.verdict.Verdict as report
use Rattle.ca_report.specs.declared.verdict.Verdict.TheVariants as reported
use Rattle.ca_chip_report.specs.ChipReport.{rows_of, IsGateDefect}

-- the grade in a report
abbrev pub reported_grade : Grade → report.Verdict
reported_grade (Credited pair output) = reported.Credited pair output
reported_grade Unexposable = reported.Unexposable
reported_grade Uncredited = reported.Uncredited

-- the rows of defects, each with its grade, in order
abbrev pub grade_rows : LinkedChip → List ChipDefect → List Grade → List ReportRow
grade_rows chip defects grades = rows_of chip defects (map reported_grade grades)

-- the output that the grade credits, if it does, is one of this many outputs
abbrev pub IsGradeWithin : ℕ → Grade → Type 0
IsGradeWithin outputs (Credited pair output) = output < outputs
IsGradeWithin outputs Unexposable = Unit {0}
IsGradeWithin outputs Uncredited = Unit {0}

-- the defects are those of library instances of the chip, there is a grade for each, and each output that is
-- credited is an observed one
pub record AreGradesOf (chip : LinkedChip) (defects : List ChipDefect) (grades : List Grade) : Type 0 where
  pub defects_are : All (IsGateDefect chip) defects
  pub one_each : length grades ≡ length defects
  pub outputs : All (IsGradeWithin (length (outputs_of chip))) grades
