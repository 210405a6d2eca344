use Rattle.std.proofs.Common.{subst, sym, map}
use Rattle.std.specs.List.{All}
use Rattle.ca_report.specs.Report.{IsRowOf}
use Rattle.ca_chip_report.specs.ChipReport.{reported_of, report_rows}
use Rattle.ca_chip_report.proofs.RowLemmas.{rows_fit, verdicts_are_rows}
use Rattle.ca_chip_report.proofs.write.write_chip_report.Goals as goal

pub invariant_of-rows : goal.invariant_of-rows
invariant_of-rows c = record { reported = verdicts_are_rows c.args.chip.now c.args.defects.now c.args.verdicts.now c.requires }

pub write_report-requires : goal.write_report-requires
write_report-requires c =
    let chip = c.args.chip.now in
    let defects = c.args.defects.now in
    let verdicts = c.args.verdicts.now in
    subst (λ count. All (IsRowOf count) (report_rows chip defects verdicts)) (sym c.in_ok-outputs.ensures.count)
    (rows_fit _ chip defects (map reported_of verdicts) (verdicts_are_rows chip defects verdicts c.requires).outputs)
