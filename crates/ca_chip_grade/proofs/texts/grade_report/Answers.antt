use Rattle.std.proofs.Common.{◌≡◌, subst}
use Rattle.std.specs.Prelude.{IfOk}
use Rattle.ca_linked.specs.Linked.{LinkedChip}
use Rattle.ca_chip_grade.specs.Texts.{grades_text}
use Rattle.ca_chip_grade.proofs.texts.grade_report.Goals as goal

pub returns : goal.returns
returns c =
    subst (λ (given : LinkedChip). IfOk c.report_over-text.result (λ text. text ≡ grades_text given c.args.grades.now))
    (c.in_ok-view.ensures).chip_is c.report_over-text.ensures
