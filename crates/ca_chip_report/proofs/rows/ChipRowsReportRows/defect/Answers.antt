use Rattle.std.proofs.Common.{◌≡◌}
use Rattle.ca_chip_report.proofs.RowLemmas.{row_within, row_reported, gate_at}
use Rattle.ca_chip_report.specs.Found.{found_of}
use Rattle.ca_chip_report.proofs.rows.ChipRowsReportRows.defect.Goals as goal

pub defect_at-requires : goal.defect_at-requires
defect_at-requires c =
    let rows = c.args.self.now in
    row_within rows.chip.now rows.defects.now (found_of rows.found) c.args.k rows.reported c.requires

pub name_of-requires : goal.name_of-requires
name_of-requires c =
    let rows = c.args.self.now in
    gate_at rows.chip.now rows.defects.now (found_of rows.found) c.args.k c.defect_at.result rows.reported
    c.defect_at.ensures

pub returns : goal.returns
returns c =
    let rows = c.args.self.now in
    row_reported (λ row. row.defect ≡ c.in_ok-name.name) rows.chip.now rows.defects.now (found_of rows.found) c.args.k
    c.defect_at.result rows.reported c.defect_at.ensures (λ verdict. c.in_ok-name.ensures)
