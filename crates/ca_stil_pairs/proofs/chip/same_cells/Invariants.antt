use Rattle.std.proofs.Common.{◌≡◌, length}
use Rattle.ca_stil_pairs.specs.code.Same.{cells_eq}
use Rattle.ca_stil_pairs.proofs.chip.same_cells.Given as goal

abbrev pub invariant-cells : goal.invariant-cells
invariant-cells l = cells_eq l.left l.right ≡ cells_eq l.cells l.chains

abbrev pub decreases-cells : goal.decreases-cells
decreases-cells l = length l.left
