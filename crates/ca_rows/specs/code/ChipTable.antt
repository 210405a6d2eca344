-- Words of the code beside those of `specs/ChipTable.antt`. Private functions and proofs cite them.
use Rattle.std.specs.Prelude.{ℕ, ◌≡◌, ◌<◌, List, [], length, Option, Some, slice_get, IsSomeAnd}
use Rattle.ca_linked.specs.Linked.{LinkedChip, cell_of}
use Rattle.ca_linked.specs.Instances.{IsOfCell, gates_of}
use Rattle.ca_rows.specs.CellTable.{CellTable}
use Rattle.ca_rows.specs.ChipTable.{ChipTable}

-- the instance u is of the library cell at this place
abbrev pub IsOfCellAt : LinkedChip → ℕ → ℕ → Type 0
IsOfCellAt chip u place = IsSomeAnd (slice_get chip.parts u) (λ part. IsOfCell place part.body)

-- the rows of the cell at this place were found
pub record HasTable (tables : List (Option CellTable)) (place : ℕ) : Type 0 where
  pub table : CellTable
  pub at : slice_get tables place ≡ Some (Some table)

-- there is an entry for each cell of the library, and rows that were found are those of the cell
pub record AreTables (chip : LinkedChip) (tables : List (Option CellTable)) : Type 0 where
  pub room : length tables ≡ length chip.cells
  pub each : (place : ℕ) (table : CellTable) → slice_get tables place ≡ Some (Some table)
      → table.cell ≡ cell_of chip.cells place

-- so it is, and the rows of the cells of the first `count` library instances were found; only the proofs of
-- the code cite this
pub record AreFound (chip : LinkedChip) (count : ℕ) (tables : List (Option CellTable)) : Type 0 where
  pub are : AreTables chip tables
  pub found : (k u place : ℕ) → k < count → slice_get (gates_of chip) k ≡ Some u → IsOfCellAt chip u place
      → HasTable tables place

-- the rows of the cell of each library instance were found, and a scan instance's defects have no rows
pub record IsChipTable (rows : ChipTable) : Type 0 where
  pub are : AreTables rows.chip rows.tables
  pub found : (u place : ℕ) → IsOfCellAt rows.chip u place → HasTable rows.tables place
  pub empty : rows.none ≡ []
