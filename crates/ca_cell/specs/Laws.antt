-- Laws of the names of defects, each the contract of a function that does nothing (src/defect_laws.rt).
use Rattle.std.specs.Prelude.{ℕ, ◌≡◌, List, slice_get, Some}
use Rattle.ca_cell.specs.declared.raw.RawCell.{RawCell}
use Rattle.ca_cell.specs.Rules.{KeepsRules}
use Rattle.ca_cell.specs.PlainNames.{HasPlainNames}
use Rattle.ca_cell.specs.declared.defect.Defect.{Defect}
use Rattle.ca_cell.specs.List.{IsDefectOf}
use Rattle.ca_cell.specs.Name.{name_of, names_of}

-- two defects of a cell with one name are one, and no name occurs twice in the list of names
pub record DefectsDiffer (raw : RawCell) : Type 0 where
  pub defects : (defect other : Defect) → IsDefectOf raw defect → IsDefectOf raw other
      → name_of raw defect ≡ name_of raw other → defect ≡ other
  pub listed : (one other : ℕ) (name : List ℕ) → slice_get (names_of raw) one ≡ Some name
      → slice_get (names_of raw) other ≡ Some name → one ≡ other

-- the defects of a cell whose nets and devices have plain names have names that differ
abbrev pub DefectNamesDiffer : Type 0
DefectNamesDiffer = (raw : RawCell) → KeepsRules raw → HasPlainNames raw → DefectsDiffer raw
