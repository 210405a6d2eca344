use Rattle.std.proofs.Common.{◌≡◌}
use Rattle.ca_chip_report.proofs.RowLemmas.{row_within, row_reported, gate_at}
use Rattle.ca_chip_report.specs.Found.{found_of}
use Rattle.ca_chip_report.proofs.rows.ChipRowsReportRows.cell.Goals as goal

pub defect_at-requires : goal.defect_at-requires
defect_at-requires c =
    let rows = c.args.self.now in
    row_within rows.chip.now rows.defects.now (found_of rows.found) c.args.k rows.reported c.requires

pub cell_of-requires : goal.cell_of-requires
cell_of-requires c =
    let rows = c.args.self.now in
    gate_at rows.chip.now rows.defects.now (found_of rows.found) c.args.k c.defect_at.result rows.reported
    c.defect_at.ensures

pub returns : goal.returns
returns c =
    let rows = c.args.self.now in
    row_reported (λ row. row.cell ≡ c.cell_of.result.now) rows.chip.now rows.defects.now (found_of rows.found) c.args.k
    c.defect_at.result rows.reported c.defect_at.ensures (λ verdict. c.cell_of.ensures)
