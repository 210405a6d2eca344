-- What an overlay is seen as.
use Rattle.ca_cell.specs.declared.raw.RawCell.{RawCell}
use Rattle.ca_cell.specs.declared.defect.Defect.{Defect}

-- a cell's subcircuit, and a defect of the cell
pub record Faulty : Type 0 where
  pub raw : RawCell
  pub defect : Defect
