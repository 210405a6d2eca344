-- Why a stage of a command on one cell fails, over what it was handed: a library, a cell.
use Rattle.std.specs.Prelude.{◌≡◌, ℕ, List, Some, None, ⊤}
use Rattle.ca_lex.specs.Words.{upper_case}
use Rattle.ca_cell.specs.declared.raw.RawCell.{RawCell}
use Rattle.ca_cell.specs.declared.rule.CellRule.{CellRule}
use Rattle.ca_cell.specs.declared.library.Entry.TheVariants.{Refused}
use Rattle.ca_cell.specs.Library.{Named, entry_of}
use Rattle.ca_cell.specs.Rules.{IsFirstBroken}
use Rattle.ca_load.specs.Texts.{CellFiles, AreTypedCells}
use Rattle.ca_on_cell.specs.declared.inputs.TypedWords.{TypedWords}
use Rattle.ca_fault.specs.declared.fault.Fault.{Fault}
use Rattle.ca_fault.specs.declared.fault.Fault.TheVariants.{NoCell, Cell, NoMemory}
use Rattle.ca_fault_place.specs.Place.{rule_text}

-- the names of the files and of a cell as they were typed, and the cell's also in upper case
pub record AreTyped (cells : CellFiles) (cell : List ℕ) (typed : TypedWords) : Type 0 where
  pub cells_are : AreTypedCells cells typed.cells
  pub cell_is : typed.cell ≡ cell
  pub upper_is : typed.upper_cell ≡ upper_case cell

-- the word names a subcircuit that breaks this rule first, with this place
pub record RefusesCell (library : List Named) (word : List ℕ) (rule : CellRule) (place : List ℕ)
    : Type 0 where
  pub raw : RawCell
  pub found : entry_of library (upper_case word) ≡ Some (Refused raw rule)
  pub broken : IsFirstBroken raw rule
  pub placed : place ≡ rule_text raw rule

-- why a word finds no cell in a library; out of memory may come with any
abbrev pub IsEntryCause : List ℕ → List Named → Fault → Type 0
IsEntryCause word library (NoCell typed) = (typed ≡ word) × (entry_of library (upper_case word) ≡ None)
IsEntryCause word library (Cell name rule place) =
    (name ≡ upper_case word) × RefusesCell library word rule place
IsEntryCause word library NoMemory = ⊤
IsEntryCause word library _ = ⊥
