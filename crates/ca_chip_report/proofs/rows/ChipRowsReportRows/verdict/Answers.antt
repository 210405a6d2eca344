use Rattle.std.proofs.Common.{arith}
use Rattle.ca_chip_report.proofs.RowLemmas.{row_within, verdict_reported}
use Rattle.ca_chip_report.specs.Found.{found_of}
use Rattle.ca_chip_report.proofs.rows.ChipRowsReportRows.verdict.Goals as goal

pub found_at-requires : goal.found_at-requires
found_at-requires c =
    let rows = c.args.self.now in
    let within = row_within rows.chip.now rows.defects.now (found_of rows.found) c.args.k rows.reported c.requires in
    let one_each = rows.reported.one_each in
    omega (arith, within, one_each)

pub returns : goal.returns
returns c =
    let rows = c.args.self.now in
    verdict_reported rows.chip.now rows.defects.now (found_of rows.found) c.args.k c.found_at.result rows.reported
    c.found_at.ensures
