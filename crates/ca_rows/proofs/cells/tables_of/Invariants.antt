use Rattle.ca_rows.specs.code.ChipTable.{AreFound}
use Rattle.ca_rows.proofs.cells.tables_of.Given as goal

abbrev pub invariant-loop-k : goal.invariant-loop-k
invariant-loop-k l = AreFound l.chip l.k l.tables.items
