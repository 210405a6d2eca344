use Rattle.ca_rows.specs.code.CellTable.{AreShown}
use Rattle.ca_rows.proofs.cell_rows.all_rows.Given as goal

abbrev pub invariant-loop-place : goal.invariant-loop-place
invariant-loop-place l = AreShown l.matrix l.place l.rows.items
