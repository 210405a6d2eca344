-- A cell of a chip has few output pins.
use Rattle.std.proofs.Common.{ℕ, ◌≤◌, ◌<◌, refl, arith}
use Rattle.std.proofs.Math.Decide.{dec_le}
use Rattle.ca_cell.specs.Raw.{is_output, role_count}
use Rattle.ca_cell.specs.declared.rule.CellRule.TheVariants.{TooManyOutputs}
use Rattle.ca_cell.specs.declared.rule.TheConstants.{MOST_OUTPUTS}
use Rattle.ca_flat.specs.Chip.{Chip, IsChip, cell_at, outputs_at, count_of}

pub few_outputs_at : (chip : Chip) (rank : ℕ → ℕ) → IsChip chip rank → (u : ℕ) → u < count_of chip → outputs_at chip u ≤ MOST_OUTPUTS
few_outputs_at chip rank is u lt = elim (dec_le (role_count is_output (cell_at chip u).pins) MOST_OUTPUTS) [
  | yes le ↦ le
  | no many ↦ absurd ((is.cells u lt).keeps (TooManyOutputs (role_count is_output (cell_at chip u).pins)) (λ same. cc) (refl, omega arith))
]
