use Rattle.std.specs.Prelude.{ℕ, ◌≡◌, ◌<◌, Some, slice_get}
use Rattle.ca_rows.proofs.cell_rows.CellRows.rows.Given as goal

abbrev pub invariant-loop-place : goal.invariant-loop-place
invariant-loop-place l = (k : ℕ) → k < l.place → slice_get l.self.defects k ≡ Some l.defect → ⊥
