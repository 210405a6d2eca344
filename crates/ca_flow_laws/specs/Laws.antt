-- Laws of causes and of names, each the contract of a function that does nothing (src/laws.rt).
use Rattle.std.specs.Prelude.{◌≡◌, ◌⊎◌, ℕ, List, Some, IsSomeAnd}
use Rattle.ca_cell.specs.declared.raw.RawCell.{RawCell}
use Rattle.ca_cell.specs.declared.strength.StrengthTable.{StrengthTable}
use Rattle.ca_cell.specs.Rules.{KeepsRules}
use Rattle.ca_cell.specs.Laws.{DefectsDiffer}
use Rattle.ca_spice.specs.Called.{cell_called}
use Rattle.ca_store.specs.Store.{Files}
use Rattle.ca_fault.specs.declared.fault.Fault.{Fault}
use Rattle.ca_words.specs.Words.{IsOnChip, IsCommand}
use Rattle.ca_flow.specs.declared.finished.Finished.{Finished}
use Rattle.ca_flow.specs.Fault.{Outside, IsCause}
use Rattle.ca_flow.specs.Complete.{IsAnswerable}
use Rattle.ca_flow.specs.Ends.{Ends}
use Rattle.ca_flow_laws.specs.Same.{IsInputFault, IsCallFault, IsSame}
use Rattle.ca_flow_laws.specs.Reported.{ReportsFiles, ReportsAllFiles}

-- of one list of words and one set of files at most one fault of input has a cause, but that of several loops
-- each has, whatever else the store holds and however often calls failed
abbrev pub HasOneCause : List (List ℕ) → Files → Type 0
HasOneCause words files =
    (before after again later : Outside) (fault other : Fault)
    → ReportsFiles words files before → ReportsFiles words files again → IsInputFault fault
    → IsInputFault other
    → IsCause words before after fault → IsCause words again later other
    → IsSame fault other

-- where a command can be answered no fault of input has a cause
abbrev pub AnswerableHasNoCause : Type 0
AnswerableHasNoCause =
    (words : List (List ℕ)) (before after : Outside) (fault : Fault) → IsAnswerable words before.files
    → IsInputFault fault → IsCause words before after fault → ⊥

-- some fault of input has a cause, where no call failed
abbrev pub HasInputCause : List (List ℕ) → Outside → Type 0
HasInputCause words outside = (fault : Fault) × (IsInputFault fault × IsCause words outside outside fault)

-- a command, but one on a chip, whose files are there can be answered, or a fault of input has a cause
abbrev pub SomeCauseOrAnswer : Type 0
SomeCauseOrAnswer =
    (words : List (List ℕ)) (outside : Outside) → ReportsAllFiles words outside
    → ¬ (IsOnChip words) → IsCommand words → IsAnswerable words outside.files ⊎ HasInputCause words outside

-- of a command on a chip whose files are there it can't be that neither holds; which of them does isn't
-- decided among the definitions
abbrev pub NeverNeitherOnChip : Type 0
NeverNeitherOnChip =
    (words : List (List ℕ)) (outside : Outside) → ReportsAllFiles words outside → IsOnChip words
    → ¬ (¬ (IsAnswerable words outside.files ⊎ HasInputCause words outside))

-- a command of whose words and files a fault of input has a cause ends with this fault, or with another loop
-- where it reports one, or with a fault of the store, the output or memory
abbrev pub CauseIsReported : Type 0
CauseIsReported =
    (words : List (List ℕ)) (files : Files) (before after : Outside) (end : Finished) (fault : Fault)
    → ReportsFiles words files before → Ends words before after end → IsInputFault fault
    → IsCause words before after fault → IsSomeAnd end.fault
    (λ reported. IsCallFault reported ⊎ IsSame reported fault)

-- of each cell that a word names in a text that is read under a table, and that keeps the rules, the defects
-- have names that differ
abbrev pub NamesMeanOneDefect : Type 0
NamesMeanOneDefect =
    (table : StrengthTable) (bytes word : List ℕ) (raw : RawCell) → cell_called table bytes word ≡ Some raw
    → KeepsRules raw → DefectsDiffer raw
