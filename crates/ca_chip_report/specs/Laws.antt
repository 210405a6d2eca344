-- Verdicts that keep their promise may be reported, so may grades, and each verdict is counted once.
use Rattle.std.specs.Prelude.{ℕ, ◌+◌, ◌≡◌, ◌<◌, Bool, List}
use Rattle.std.specs.List.{All}
use Rattle.ca_linked.specs.Linked.{LinkedChip, IsLibrary}
use Rattle.ca_view.specs.Core.{core_of, rank_of}
use Rattle.ca_credit.specs.declared.verdict.Verdict.{Verdict}
use Rattle.ca_credit.specs.Defects.{Task, IsOfOneChip}
use Rattle.ca_credit.specs.Good.{IsGood}
use Rattle.ca_grade.specs.declared.grade.Grade.{Grade}
use Rattle.ca_grade.specs.Graded.{AreGraded}
use Rattle.ca_chip_report.specs.ChipReport.{IsGateDefect, AreReported}
use Rattle.ca_chip_report.specs.Grades.{AreGradesOf}
use Rattle.ca_chip_report.specs.Summary.{summary_of}

-- what is promised of verdicts on defects of library instances is enough to report them
abbrev pub GoodIsReported : Type 0
GoodIsReported =
    (chip : LinkedChip) (task : Task) (pairs : List (List Bool)) (aims : List ℕ) (verdicts : List Verdict)
    → task.chip ≡ core_of chip → IsOfOneChip task → All (IsGateDefect chip) task.defects
    → IsGood task pairs aims verdicts → AreReported chip task.defects verdicts

-- grades that are so are enough to report them
abbrev pub GradedIsReported : Type 0
GradedIsReported =
    (chip : LinkedChip) (task : Task) (pairs : List (List Bool)) (grades : List Grade)
    → task.chip ≡ core_of chip → IsOfOneChip task → All (IsGateDefect chip) task.defects
    → AreGraded task pairs grades → AreGradesOf chip task.defects grades

-- an instance with a place in the order of evaluation is one of the library
abbrev pub RankedIsLibrary : Type 0
RankedIsLibrary = (chip : LinkedChip) (u : ℕ) → 0 < rank_of chip u → IsLibrary chip u

-- each defect is counted under one verdict
abbrev pub CountsAreAll : Type 0
CountsAreAll =
    (verdicts : List Verdict) (pairs : ℕ)
    → (let summary = summary_of verdicts pairs in
    summary.credited + (summary.unexposable + (summary.untestable + summary.aborted)) ≡ summary.defects)
