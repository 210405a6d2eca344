use Rattle.std.proofs.Common.{ℕ, ◌≡◌, ◌<◌}
use Rattle.std.specs.Prelude.{Some, slice_get}
use Rattle.ca_linked.specs.Cells.{used_cells}
use Rattle.ca_linked.proofs.chip.Chip.number_of.Given as goal

abbrev pub invariant-loop-k : goal.invariant-loop-k
invariant-loop-k l = (j : ℕ) → j < l.k → slice_get (used_cells l.self) j ≡ Some l.cell → ⊥
