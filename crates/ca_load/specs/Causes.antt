-- Why the files of a command give no chip: each stage has its own causes, in the order of the stages.
use Rattle.std.specs.Prelude.{◌≡◌, ◌⊎◌, ℕ, List, Option, Some, None, Err, IsOk, ⊤}
use Rattle.ca_store.specs.Store.{Files}
use Rattle.ca_cell.specs.declared.strength.StrengthTable.{StrengthTable}
use Rattle.ca_strengths.specs.StrengthText.{strengths_of}
use Rattle.ca_spice.specs.declared.fault.SpiceFault.TheVariants as spice
use Rattle.ca_spice.specs.Reading.{library_of}
use Rattle.ca_verilog.specs.declared.fault.VerilogFault.TheVariants as verilog
use Rattle.ca_verilog.specs.Text.{netlist_of}
use Rattle.ca_scan.specs.Table.{table_of}
use Rattle.ca_fault.specs.declared.fault.LimitKind.TheVariants as limit
use Rattle.ca_fault.specs.declared.fault.Fault.{Fault}
use Rattle.ca_fault.specs.declared.fault.Fault.TheVariants.{Strengths, Cells, Netlist, Scan, Chip}
use Rattle.ca_fault.specs.declared.fault.Fault.TheVariants.{Chain, Cell, Limit, NoMemory}
use Rattle.ca_load.specs.declared.cells.TheConstants.{MAX_CELLS}
use Rattle.ca_load.specs.declared.netlists.TheConstants.{MAX_NETLIST}
use Rattle.ca_load.specs.declared.tables.TheConstants.{MAX_SCAN}
use Rattle.ca_load.specs.Files.{OfFile, IsReadCause}
use Rattle.ca_load.specs.declared.strengths.TheConstants.{MAX_STRENGTHS}
use Rattle.ca_load.specs.Texts.{CellFiles, HasStrengths, OfCells, InputFiles, OfInputs}
use Rattle.ca_load.specs.Chips.{IsPlainRule, IsChipCause}

-- why a text is no strength table: its first record that breaks the form
abbrev pub IsRatioCause : Fault → List ℕ → Type 0
IsRatioCause (Strengths row) bytes = strengths_of bytes ≡ Err row
IsRatioCause _ bytes = ⊥

-- the same of a file
abbrev pub IsRatiosCause : List ℕ → Option Files → Fault → Type 0
IsRatiosCause name files (Strengths row) = OfFile files name MAX_STRENGTHS (IsRatioCause (Strengths row))
IsRatiosCause name files _ = ⊥

-- why a file gives no strength table: it could not be read, or its text is none
abbrev pub IsNamedTableCause : List ℕ → Option Files → ℕ → ℕ → Fault → Type 0
IsNamedTableCause name files before after fault =
    IsReadCause name files MAX_STRENGTHS before after fault ⊎ IsRatiosCause name files fault

-- the same, where no file may be named, which has no cause
abbrev pub IsStrengthsCause : Option (List ℕ) → Option Files → ℕ → ℕ → Fault → Type 0
IsStrengthsCause None files before after fault = ⊥
IsStrengthsCause (Some name) files before after fault = IsNamedTableCause name files before after fault

-- why the text of a cell netlist has no reading under a table: its first faulty line, or its number of
-- subcircuits where these are too many
abbrev pub IsTextCause : Fault → StrengthTable → List ℕ → Type 0
IsTextCause (Cells line kind) table bytes = library_of table bytes ≡ Err (spice.At line kind)
IsTextCause (Limit limit.Cells count) table bytes = library_of table bytes ≡ Err (spice.TooManyCells count)
IsTextCause _ table bytes = ⊥

-- the same of a file
abbrev pub IsCellsCause : CellFiles → Option Files → Fault → Type 0
IsCellsCause names files (Cells line kind) = OfCells files names (IsTextCause (Cells line kind))
IsCellsCause names files (Limit limit.Cells count) =
    OfCells files names (IsTextCause (Limit limit.Cells count))
IsCellsCause names files _ = ⊥

-- why files give no library: there was no memory; the first gives no strength table; the second could not be
-- read, or its text has no reading under the table
abbrev pub IsLibraryCause : CellFiles → Option Files → ℕ → ℕ → Fault → Type 0
IsLibraryCause names files before after fault =
    (fault ≡ NoMemory)
    ⊎ (IsStrengthsCause names.table files before after fault
    ⊎ ((HasStrengths files names.table × IsReadCause names.name files MAX_CELLS before after fault)
    ⊎ IsCellsCause names files fault))

-- why the text of a gate netlist has no reading: its first faulty token, or its number of bits where these
-- are too many
abbrev pub IsModuleCause : Fault → List ℕ → Type 0
IsModuleCause (Netlist line kind) bytes = netlist_of bytes ≡ Err (verilog.At line kind)
IsModuleCause (Limit limit.Nets count) bytes = netlist_of bytes ≡ Err (verilog.TooManyNets count)
IsModuleCause _ bytes = ⊥

-- the same of a file
abbrev pub IsTokensCause : List ℕ → Option Files → Fault → Type 0
IsTokensCause name files (Netlist line kind) =
    OfFile files name MAX_NETLIST (IsModuleCause (Netlist line kind))
IsTokensCause name files (Limit limit.Nets count) =
    OfFile files name MAX_NETLIST (IsModuleCause (Limit limit.Nets count))
IsTokensCause name files _ = ⊥

-- why a file gives no netlist
abbrev pub IsNetlistCause : List ℕ → Option Files → ℕ → ℕ → Fault → Type 0
IsNetlistCause name files before after fault =
    IsReadCause name files MAX_NETLIST before after fault ⊎ IsTokensCause name files fault

-- why a text is no table of scan cells: its first record that breaks the form
abbrev pub IsRecordCause : Fault → List ℕ → Type 0
IsRecordCause (Scan row) bytes = table_of bytes ≡ Err row
IsRecordCause _ bytes = ⊥

-- the same of a file
abbrev pub IsRowsCause : List ℕ → Option Files → Fault → Type 0
IsRowsCause name files (Scan row) = OfFile files name MAX_SCAN (IsRecordCause (Scan row))
IsRowsCause name files _ = ⊥

-- why a file gives no table
abbrev pub IsTableCause : List ℕ → Option Files → ℕ → ℕ → Fault → Type 0
IsTableCause name files before after fault =
    IsReadCause name files MAX_SCAN before after fault ⊎ IsRowsCause name files fault

-- the same, where a chip may have no table, which has no cause
abbrev pub IsScanCause : Option (List ℕ) → Option Files → ℕ → ℕ → Fault → Type 0
IsScanCause None files before after fault = ⊥
IsScanCause (Some name) files before after fault = IsTableCause name files before after fault

-- where the files are known, those of these names are there and read as a library
abbrev pub HasLibrary : Option Files → CellFiles → Type 0
HasLibrary files names = OfCells files names (λ table bytes. IsOk (library_of table bytes))

-- the same of a netlist
abbrev pub HasNetlist : Option Files → List ℕ → Type 0
HasNetlist files name = OfFile files name MAX_NETLIST (λ bytes. IsOk (netlist_of bytes))

-- why the files were not read as what they should be: the cell netlist comes first, with its strength table,
-- then the gate netlist, and then the table of scan cells
abbrev pub IsInputCause : InputFiles → Option Files → ℕ → ℕ → Fault → Type 0
IsInputCause names files before after fault =
    IsLibraryCause names.cells files before after fault
    ⊎ ((HasLibrary files names.cells × IsNetlistCause names.netlist files before after fault)
    ⊎ (HasLibrary files names.cells
    × (HasNetlist files names.netlist × IsScanCause names.scan files before after fault)))

-- the fault is one of linking or tracing
abbrev pub IsChipFault : Fault → Type 0
IsChipFault (Cell name rule place) = ⊤
IsChipFault (Chip rule place) = IsPlainRule rule
IsChipFault (Chain name) = ⊤
IsChipFault (Limit limit.Instances count) = ⊤
IsChipFault (Limit limit.Inputs count) = ⊤
IsChipFault (Limit limit.Outputs count) = ⊤
IsChipFault (Limit limit.Defects count) = ⊤
IsChipFault (Limit limit.Chains count) = ⊤
IsChipFault _ = ⊥

-- why what was read gives no chip with chains
abbrev pub IsLinkedCause : InputFiles → Option Files → Fault → Type 0
IsLinkedCause names files fault = IsChipFault fault × OfInputs files names (IsChipCause fault)

-- why the files give no chip with chains
abbrev pub IsLoadCause : InputFiles → Option Files → ℕ → ℕ → Fault → Type 0
IsLoadCause names files before after fault =
    IsInputCause names files before after fault ⊎ IsLinkedCause names files fault
