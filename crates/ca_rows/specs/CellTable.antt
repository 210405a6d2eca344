-- For each defect of a cell the rows that expose it.
use Rattle.std.specs.Prelude.{◌↔◌, List}
use Rattle.std.specs.List.{Contains}
use Rattle.ca_cell.specs.declared.raw.RawCell.{RawCell}
use Rattle.ca_cell.specs.declared.defect.Defect.{Defect}
use Rattle.ca_cell.specs.declared.row.Row.{Row}
use Rattle.ca_cell.specs.Exposes.{IsExposingRow}

-- the list has exactly the rows that expose the defect in the cell
abbrev pub ListsRows : RawCell → Defect → List Row → Type 0
ListsRows raw defect rows = (row : Row) → Contains rows row ↔ IsExposingRow raw defect row

-- a cell, its defects, and rows for each of them
pub record CellTable : Type 0 where
  pub cell : RawCell
  pub defects : List Defect
  pub rows : List (List Row)
