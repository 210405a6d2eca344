use Rattle.ca_flat_tests.proofs.BareCells.{bare_cells_are_cells_lem}
use Rattle.ca_flat_tests.proofs.laws.bare_cells_are_cells.Goals as goal

pub returns : goal.returns
returns c = bare_cells_are_cells_lem
