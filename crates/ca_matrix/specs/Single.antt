-- The rows that expose one defect of a cell; the words below the first are of the code.
use Rattle.std.specs.Prelude.{◌↔◌, List, Contains}
use Rattle.ca_cell.specs.declared.raw.RawCell.{RawCell}
use Rattle.ca_cell.specs.declared.defect.Defect.{Defect}
use Rattle.ca_cell.specs.declared.row.Row.{Row}
use Rattle.ca_cell.specs.Exposes.{IsExposingRow}

-- these are the rows that expose the defect
abbrev pub AreExposingRows : RawCell → Defect → List Row → Type 0
AreExposingRows raw defect rows = (row : Row) → Contains rows row ↔ IsExposingRow raw defect row
