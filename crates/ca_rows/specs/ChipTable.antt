-- The rows of the library cells that a linked chip uses.
use Rattle.std.specs.Prelude.{List, Option}
use Rattle.ca_cell.specs.declared.row.Row.{Row}
use Rattle.ca_linked.specs.Linked.{LinkedChip}
use Rattle.ca_rows.specs.CellTable.{CellTable}

-- the chip, for each cell of the library its rows, if they were found, and the rows of a scan instance's
-- defects
pub record ChipTable : Type 0 where
  pub chip : LinkedChip
  pub tables : List (Option CellTable)
  pub none : List Row
