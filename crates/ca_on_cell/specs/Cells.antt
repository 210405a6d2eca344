-- What a name finds in the file of a cell netlist, which is read under a strength table.
use Rattle.std.specs.Prelude.{ℕ, List, Option, IsOk, IsNone, IsSomeAnd}
use Rattle.ca_store.specs.Store.{Files}
use Rattle.ca_cell.specs.declared.raw.RawCell.{RawCell}
use Rattle.ca_cell.specs.declared.strength.StrengthTable.{StrengthTable}
use Rattle.ca_spice.specs.Reading.{library_of}
use Rattle.ca_spice.specs.Called.{cell_called}
use Rattle.ca_load.specs.Texts.{CellFiles, OfCells}

-- the text has a reading under the table, in which the word names a subcircuit of which this holds
abbrev pub HasCell : List ℕ → (RawCell → Type 0) → StrengthTable → List ℕ → Type 0
HasCell word Holds table bytes = IsSomeAnd (cell_called table bytes word) Holds

-- the text has a reading under the table, in which the word names no subcircuit
abbrev pub LacksCell : List ℕ → StrengthTable → List ℕ → Type 0
LacksCell word table bytes = IsOk (library_of table bytes) × IsNone (cell_called table bytes word)

-- where the files are known, the word names a subcircuit of the file, and this holds of it
abbrev pub OfCell : Option Files → CellFiles → List ℕ → (RawCell → Type 0) → Type 0
OfCell files cells word Holds = OfCells files cells (HasCell word Holds)
