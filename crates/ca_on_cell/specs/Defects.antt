-- The names of a cell's defects, and its matrix.
use Rattle.std.specs.Prelude.{◌≡◌, ℕ, List}
use Rattle.ca_cell.specs.declared.raw.RawCell.{RawCell}
use Rattle.ca_cell.specs.Rules.{KeepsRules}
use Rattle.ca_cell.specs.Name.{names_of}
use Rattle.ca_matrix.specs.Matrix.{Entries}
use Rattle.ca_matrix.specs.Built.{IsMatrixOf}

-- the names are those of the defects of a subcircuit that keeps the rules of a used cell, in their order
abbrev pub AreDefectNames : List (List ℕ) → RawCell → Type 0
AreDefectNames names raw = KeepsRules raw × (names ≡ names_of raw)

-- the matrix is that of a subcircuit that keeps the rules of a used cell
abbrev pub IsSoundMatrix : Entries → RawCell → Type 0
IsSoundMatrix matrix raw = KeepsRules raw × IsMatrixOf raw matrix
