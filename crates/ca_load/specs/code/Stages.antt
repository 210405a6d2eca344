-- Why a stage fails, over what it was handed: a text, or what was read.
use Rattle.std.specs.Prelude.{◌≡◌, ◌⊎◌, ℕ, List, [], unwrap_or, Option}
use Rattle.ca_store.specs.Store.{Files}
use Rattle.ca_cell.specs.declared.strength.StrengthTable.{StrengthTable}
use Rattle.ca_linked.specs.Linked.{LinkedChip}
use Rattle.ca_fault.specs.declared.fault.Fault.{Fault}
use Rattle.ca_fault.specs.declared.fault.Fault.TheVariants.{Cells, Limit, NoMemory}
use Rattle.ca_fault.specs.declared.fault.LimitKind.TheVariants as limit
use Rattle.ca_load.specs.declared.cells.TheConstants.{MAX_CELLS}
use Rattle.ca_load.specs.declared.reading.TypedNames.{TypedNames}
use Rattle.ca_load.specs.declared.reading.Read.{Read}
use Rattle.ca_load.specs.Files.{OfFile, IsReadCause}
use Rattle.ca_load.specs.Texts.{AreTypedCells, InputFiles, Inputs}
use Rattle.ca_load.specs.Chips.{IsLinkingCause, IsTracingCause, IsChipCause}
use Rattle.ca_load.specs.Causes.{IsRatioCause, IsTextCause, IsModuleCause, IsRecordCause}
use Rattle.ca_load.specs.Causes.{IsChipFault}

-- the names stand in memory of their own; where there is none it is empty
pub record AreTyped (names : InputFiles) (typed : TypedNames) : Type 0 where
  pub cells_are : AreTypedCells names.cells typed.cells
  pub netlist_is : typed.netlist ≡ names.netlist
  pub scan_is : typed.scan ≡ unwrap_or names.scan []

-- what was read
abbrev pub inputs_of : Read → Inputs
inputs_of read = record { library = read.library; netlist = read.netlist; rows = read.scan }

-- why a text gives no strength table
abbrev pub IsRatiosStage : List ℕ → Fault → Type 0
IsRatiosStage bytes fault = (fault ≡ NoMemory) ⊎ IsRatioCause fault bytes

-- why a text gives no library
abbrev pub IsCellsStage : StrengthTable → List ℕ → Fault → Type 0
IsCellsStage table bytes fault = (fault ≡ NoMemory) ⊎ IsTextCause fault table bytes

-- the same of a file
abbrev pub IsLineStage : StrengthTable → List ℕ → Option Files → Fault → Type 0
IsLineStage table name files (Cells line kind) =
    OfFile files name MAX_CELLS (IsTextCause (Cells line kind) table)
IsLineStage table name files (Limit limit.Cells count) =
    OfFile files name MAX_CELLS (IsTextCause (Limit limit.Cells count) table)
IsLineStage table name files _ = ⊥

-- why a file gives no library under a table: it could not be read, or its text has no reading
abbrev pub IsFileStage : StrengthTable → List ℕ → Option Files → ℕ → ℕ → Fault → Type 0
IsFileStage table name files before after fault =
    IsReadCause name files MAX_CELLS before after fault ⊎ IsLineStage table name files fault

-- why a text gives no netlist
abbrev pub IsNetlistStage : List ℕ → Fault → Type 0
IsNetlistStage bytes fault = (fault ≡ NoMemory) ⊎ IsModuleCause fault bytes

-- why a text gives no table of scan cells
abbrev pub IsTableStage : List ℕ → Fault → Type 0
IsTableStage bytes fault = (fault ≡ NoMemory) ⊎ IsRecordCause fault bytes

-- why what was read doesn't link
abbrev pub IsLinkStage : Inputs → Fault → Type 0
IsLinkStage inputs fault = (fault ≡ NoMemory) ⊎ (IsChipFault fault × IsLinkingCause inputs fault)

-- why a chip has no chains
abbrev pub IsTraceStage : LinkedChip → Fault → Type 0
IsTraceStage chip fault = (fault ≡ NoMemory) ⊎ (IsChipFault fault × IsTracingCause fault chip)

-- why what was read gives no chip with chains
abbrev pub IsLinkedStage : Inputs → Fault → Type 0
IsLinkedStage inputs fault = (fault ≡ NoMemory) ⊎ (IsChipFault fault × IsChipCause fault inputs)
