-- The texts that report the grades of a linked chip's defects.
use Rattle.std.specs.Prelude.{ℕ, List}
use Rattle.ca_linked.specs.Linked.{LinkedChip}
use Rattle.ca_outputs.specs.Outputs.{output_names}
use Rattle.ca_report.specs.Report.{report_text}
use Rattle.ca_grade.specs.declared.grade.Grade.{Grade}
use Rattle.ca_chip_report.specs.Grades.{grade_rows}
use Rattle.ca_chip_report.specs.GradeSummary.{summary_of_grades, grade_line}
use Rattle.ca_engine.specs.ChipTask.{task_of}

-- the report of the grades of the chip's defects
abbrev pub grades_text : LinkedChip → List Grade → List ℕ
grades_text chip grades = report_text (output_names chip) (grade_rows chip (task_of chip 0).defects grades)

-- the line that says how many defects have which grade, and how many pairs there are
abbrev pub grades_line : List Grade → ℕ → List ℕ
grades_line grades pairs = grade_line (summary_of_grades grades pairs)
