-- Words of the code beside those of `specs/Overlay.antt`. Private functions and proofs cite them.
use Rattle.ca_cell.specs.declared.raw.RawCell.{RawCell}
use Rattle.ca_cell.specs.Rules.{IsRaw, KeepsRules}
use Rattle.ca_cell.specs.declared.defect.Defect.{Defect}
use Rattle.ca_cell.specs.List.{IsDefectOf}

-- the subcircuit is that of a cell, and the defect one of the cell's
pub record IsFaulty (raw : RawCell) (defect : Defect) : Type 0 where
  pub is_raw : IsRaw raw
  pub keeps : KeepsRules raw
  pub listed : IsDefectOf raw defect
