-- Words of the code beside those of `specs/CellTable.antt`. Private functions and proofs cite them.
use Rattle.std.specs.Prelude.{ℕ, ◌≡◌, ◌<◌, List, [], length, Some, slice_get, slice_index_or}
use Rattle.ca_cell.specs.declared.defect.Defect.{Defect}
use Rattle.ca_cell.specs.declared.row.Row.{Row}
use Rattle.ca_cell.specs.List.{defects_of}
use Rattle.ca_matrix.specs.Matrix.{Entries}
use Rattle.ca_matrix.specs.Showing.{ListsExposing}
use Rattle.ca_rows.specs.CellTable.{ListsRows, CellTable}

-- the defects are those of the cell, in list order, and each has the rows that expose it
pub record IsCellTable (table : CellTable) : Type 0 where
  pub defects_are : table.defects ≡ defects_of table.cell
  pub counted : length table.rows ≡ length table.defects
  pub lists : (place : ℕ) (defect : Defect) → slice_get table.defects place ≡ Some defect
      → ListsRows table.cell defect (slice_index_or table.rows place [])

-- the first `count` defects of the matrix have their rows; only the proofs of the code cite this
pub record AreShown (matrix : Entries) (count : ℕ) (rows : List (List Row)) : Type 0 where
  pub room : length rows ≡ count
  pub each : (place : ℕ) → place < count → ListsExposing matrix place (slice_index_or rows place [])
