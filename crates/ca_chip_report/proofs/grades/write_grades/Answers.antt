use Rattle.std.proofs.Common.{subst, sym, map}
use Rattle.std.specs.List.{All}
use Rattle.ca_report.specs.Report.{IsRowOf}
use Rattle.ca_chip_report.specs.Grades.{reported_grade, grade_rows}
use Rattle.ca_chip_report.proofs.RowLemmas.{rows_fit, grades_are_rows}
use Rattle.ca_chip_report.proofs.grades.write_grades.Goals as goal

pub invariant_of-rows : goal.invariant_of-rows
invariant_of-rows c = record { reported = grades_are_rows c.args.chip.now c.args.defects.now c.args.grades.now c.requires }

pub write_report-requires : goal.write_report-requires
write_report-requires c =
    let chip = c.args.chip.now in
    let defects = c.args.defects.now in
    let grades = c.args.grades.now in
    subst (λ count. All (IsRowOf count) (grade_rows chip defects grades)) (sym c.in_ok-outputs.ensures.count)
    (rows_fit _ chip defects (map reported_grade grades) (grades_are_rows chip defects grades c.requires).outputs)
