-- The line that says how many defects have which grade, and how many pairs there are.
use Rattle.std.specs.Prelude.{ℕ, Bool, true, false, List, [], ◌++◌, length, codes}
use Rattle.std.specs.List.{filter}
use Rattle.ca_grade.specs.declared.grade.Grade.{Grade}
use Rattle.ca_grade.specs.declared.grade.Grade.TheVariants.{Credited, Unexposable, Uncredited}
use Rattle.ca_chip_report.specs.declared.grade_summary.GradeKind.{GradeKind}
use Rattle.ca_chip_report.specs.declared.grade_summary.GradeKind.TheVariants as kind
use Rattle.ca_chip_report.specs.declared.grade_summary.GradeSummary.{GradeSummary}
use Rattle.ca_chip_report.specs.Summary.{with_count}

-- whether the grade is of the kind
abbrev pub is_grade_kind : GradeKind → Grade → Bool
is_grade_kind kind.Credited (Credited pair output) = true
is_grade_kind kind.Unexposable Unexposable = true
is_grade_kind kind.Uncredited Uncredited = true
is_grade_kind _ _ = false

-- how many of the grades are of the kind
abbrev pub grade_count : GradeKind → List Grade → ℕ
grade_count kind grades = length (filter (is_grade_kind kind) grades)

-- the numbers of all defects, of those with each grade, and of the pairs
abbrev pub summary_of_grades : List Grade → ℕ → GradeSummary
summary_of_grades grades pairs = record {
  defects = length grades;
  credited = grade_count kind.Credited grades;
  unexposable = grade_count kind.Unexposable grades;
  uncredited = grade_count kind.Uncredited grades;
  pairs = pairs;
}

-- the line of a summary
abbrev pub grade_line : GradeSummary → List ℕ
grade_line summary =
    let defects = with_count [] (codes "defects ") summary.defects in
    let credited = with_count defects (codes ", credited ") summary.credited in
    let unexposable = with_count credited (codes ", unexposable ") summary.unexposable in
    let uncredited = with_count unexposable (codes ", uncredited ") summary.uncredited in
    with_count uncredited (codes ", pairs ") summary.pairs ++ codes "\n"
