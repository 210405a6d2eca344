-- Why a command on one cell is refused: each stage has its own causes, and a command's are those of its
-- stages.
use Rattle.std.specs.Prelude.{◌≡◌, ◌≢◌, ◌⊎◌, ℕ, List, Option, IsNone}
use Rattle.ca_store.specs.Store.{Files}
use Rattle.ca_lex.specs.Words.{upper_case}
use Rattle.ca_cell.specs.declared.raw.RawCell.{RawCell}
use Rattle.ca_cell.specs.declared.rule.CellRule.{CellRule}
use Rattle.ca_cell.specs.Rules.{KeepsRules, IsFirstBroken}
use Rattle.ca_fault_place.specs.Place.{rule_text}
use Rattle.ca_fault.specs.declared.fault.Fault.{Fault}
use Rattle.ca_fault.specs.declared.fault.Fault.TheVariants.{NoCell, Cell, BadVector, NoDefect}
use Rattle.ca_load.specs.Texts.{CellFiles, OfCells}
use Rattle.ca_load.specs.Causes.{IsLibraryCause}
use Rattle.ca_request.specs.Vectors.{dash}
use Rattle.ca_on_cell.specs.Cells.{OfCell, LacksCell}
use Rattle.ca_on_cell.specs.Outputs.{Fits, asked_network}

-- the rule is the first that the cell breaks, with its place
pub record BreaksAt (rule : CellRule) (place : List ℕ) (raw : RawCell) : Type 0 where
  pub broken : IsFirstBroken raw rule
  pub placed : place ≡ rule_text raw rule

-- why a word finds no cell in the files: it names none, or one that breaks a rule, the first of those that it
-- breaks
abbrev pub IsNameCause : CellFiles → List ℕ → Option Files → Fault → Type 0
IsNameCause names word files (NoCell typed) = (typed ≡ word) × OfCells files names (LacksCell word)
IsNameCause names word files (Cell cell rule place) =
    (cell ≡ upper_case word) × OfCell files names word (BreaksAt rule place)
IsNameCause names word files _ = ⊥

-- the first of the two vectors that has more or fewer letters than the cell has input pins
abbrev pub IsFirstUnfit : RawCell → List ℕ → List ℕ → List ℕ → Type 0
IsFirstUnfit raw first last typed =
    ((typed ≡ first) × ¬ (Fits raw first)) ⊎ ((typed ≡ last) × (Fits raw first × ¬ (Fits raw last)))

-- both vectors fit, and the word for the defect is no dash and names no defect of the cell
abbrev pub LacksDefect : RawCell → List ℕ → List ℕ → List ℕ → Type 0
LacksDefect raw first last defect = Fits raw first × (Fits raw last × IsNone (asked_network raw defect))

-- why a cell has no values under these vectors with this defect: a vector doesn't fit, or the cell lacks the
-- defect
abbrev pub IsPairCause : List ℕ → List ℕ → List ℕ → Fault → RawCell → Type 0
IsPairCause first last defect (BadVector typed) raw = KeepsRules raw × IsFirstUnfit raw first last typed
IsPairCause first last defect (NoDefect typed) raw =
    (typed ≡ defect) × (KeepsRules raw × LacksDefect raw first last defect)
IsPairCause first last defect _ raw = ⊥

-- the same of the cell that a word names in the files; the word reported is one of those typed, whatever
-- files the store knows
abbrev pub IsVectorCause : CellFiles → List ℕ → List ℕ → List ℕ → List ℕ → Option Files → Fault → Type 0
IsVectorCause names word first last defect files (BadVector typed) =
    ((typed ≡ first) ⊎ (typed ≡ last))
    × OfCell files names word (IsPairCause first last defect (BadVector typed))
IsVectorCause names word first last defect files (NoDefect typed) =
    (typed ≡ defect)
    × ((defect ≢ dash) × OfCell files names word (IsPairCause first last defect (NoDefect typed)))
IsVectorCause names word first last defect files _ = ⊥

-- why a command on one cell found no cell
abbrev pub IsCellCause : CellFiles → List ℕ → Option Files → ℕ → ℕ → Fault → Type 0
IsCellCause names word files before after fault =
    IsLibraryCause names files before after fault ⊎ IsNameCause names word files fault

-- why `respond` and `pair` found no values
abbrev pub IsValueCause : CellFiles → List ℕ → List ℕ → List ℕ → List ℕ → Option Files → ℕ → ℕ → Fault
    → Type 0
IsValueCause names word first last defect files before after fault =
    IsCellCause names word files before after fault ⊎ IsVectorCause names word first last defect files fault
