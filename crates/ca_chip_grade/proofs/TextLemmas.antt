-- What the writer of the report asks for.
use Rattle.std.proofs.Common.{◌≡◌, ℕ, Bool, List, refl, sym, ◌∙◌, ap, subst}
use Rattle.std.specs.List.{All}
use Rattle.std.proofs.lemmas.List.Elements.{All-weaker}
use Rattle.ca_flat.specs.declared.chip_defect.ChipDefect.{ChipDefect}
use Rattle.ca_linked.specs.Linked.{LinkedChip, IsWired}
use Rattle.ca_view.specs.Core.{core_of}
use Rattle.ca_outputs.specs.Outputs.{output_names}
use Rattle.ca_view.specs.Linked.{IsPlacedDefect, place_in}
use Rattle.ca_view.specs.View.{Viewed, IsViewOf}
use Rattle.ca_view.proofs.LinkedLemmas.{placed_is_library}
use Rattle.ca_report.specs.Report.{report_text}
use Rattle.ca_grade.specs.declared.grade.Grade.{Grade}
use Rattle.ca_grade.specs.Graded.{AreGraded}
use Rattle.ca_chip_report.specs.ChipReport.{IsGateDefect}
use Rattle.ca_chip_report.specs.Grades.{grade_rows, AreGradesOf}
use Rattle.ca_chip_report.specs.Laws.{GradedIsReported}
use Rattle.ca_engine.specs.ChipTask.{task_of}
use Rattle.ca_chip_grade.specs.Texts.{grades_text}

module _ (view : Viewed) (are : IsViewOf view.chip view) (list : List ChipDefect) (is : list ≡ (task_of view.chip 0).defects) where
  pub are_grades_of : GradedIsReported → IsWired view.chip → All (IsPlacedDefect (core_of view.chip) (place_in view.ranks)) list
      → (pairs : List (List Bool)) (grades : List Grade) → AreGraded (task_of view.chip 0) pairs grades
      → AreGradesOf view.chip list grades
  are_grades_of law wired placed pairs grades graded =
      subst (λ defects. AreGradesOf view.chip defects grades) (sym is)
      (law view.chip (task_of view.chip 0) pairs grades refl refl (subst (All (IsGateDefect view.chip)) is gates) graded)
    where
      gates : All (IsGateDefect view.chip) list
      gates = All-weaker (IsPlacedDefect (core_of view.chip) (place_in view.ranks)) (IsGateDefect view.chip) (λ defect one. record {
        is_defect = one.defect_is;
        is_gate = placed_is_library view.chip wired view.ranks are.ranked defect.instance
            (record { known = one.defect_is.known; placed = one.placed });
      }) list placed

  pub is_report : (grades : List Grade) (text : List ℕ) → text ≡ report_text (output_names view.chip) (grade_rows view.chip list grades)
      → text ≡ grades_text view.chip grades
  is_report grades text text_is = text_is ∙ ap (λ (l : List ChipDefect). report_text (output_names view.chip) (grade_rows view.chip l grades)) is
