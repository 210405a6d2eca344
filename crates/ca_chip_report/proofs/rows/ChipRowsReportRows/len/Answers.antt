use Rattle.ca_chip_report.proofs.RowLemmas.{row_count}
use Rattle.ca_chip_report.specs.Found.{found_of}
use Rattle.ca_chip_report.proofs.rows.ChipRowsReportRows.len.Goals as goal

pub returns : goal.returns
returns c =
    let rows = c.args.self.now in row_count rows.chip.now rows.defects.now (found_of rows.found) rows.reported
