use Rattle.ca_matrix.specs.code.Filled.{IsFilledTo}
use Rattle.ca_matrix.proofs.fill.fill_block.Given as goal

abbrev pub invariant-loop-number : goal.invariant-loop-number
invariant-loop-number g l = IsFilledTo (g.N.CellNet.subcircuit l.net) l.entries l.column l.number
