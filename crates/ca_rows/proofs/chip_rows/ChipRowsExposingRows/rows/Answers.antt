use Rattle.std.proofs.Common.{ap, subst}
use Rattle.ca_cell.specs.declared.raw.RawCell.{RawCell}
use Rattle.ca_rows.specs.CellTable.{ListsRows}
use Rattle.ca_rows.specs.ChipTable.{ChipTable}
use Rattle.ca_rows.proofs.BareLemmas.{not_library, scan_rows}
use Rattle.ca_rows.proofs.chip_rows.ChipRowsExposingRows.rows.Goals as goal

pub returns-then-is_library : goal.returns-then-is_library
returns-then-is_library c = subst (λ (raw : RawCell). ListsRows raw c.args.defect.defect c.rows.result.now) c.table.ensures c.rows.ensures

pub returns-else-is_library : goal.returns-else-is_library
returns-else-is_library c =
    scan_rows c.args.self.now.chip c.args.defect c.requires
    (not_library c.self.inside.chip.now c.args.self.now.chip c.args.defect.instance c.is_library.result (ap (λ (t : ChipTable). t.chip) c.self.view_is)
    c.is_library.ensures c.if-is_library.false)
    c.self.inside.none c.self.invariant.empty
