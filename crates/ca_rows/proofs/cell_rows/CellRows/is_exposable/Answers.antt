use Rattle.ca_rows.proofs.CellTableLemmas.{exposable_is}
use Rattle.ca_rows.proofs.cell_rows.CellRows.is_exposable.Goals as goal

pub returns : goal.returns
returns c = exposable_is c.args.self.now.cell c.args.defect c.rows.result.now c.is_empty.result c.rows.ensures c.is_empty.ensures
