use Rattle.ca_rows.proofs.CellTableLemmas.{shown_are}
use Rattle.ca_rows.proofs.cell_rows.CellRows.new.Goals as goal

pub invariant_of-result : goal.invariant_of-result
invariant_of-result c =
    shown_are c.args.cell.now c.in_ok-matrix.matrix c.in_ok-defects.defects c.in_ok-rows.rows.items c.in_ok-matrix.ensures c.in_ok-rows.ensures c.in_ok-defects.ensures.ok
