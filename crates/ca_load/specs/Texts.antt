-- What the files of a command on a chip read as.
use Rattle.std.specs.Prelude.{◌≡◌, ◌⊎◌, ℕ, nat_le, List, [], length, map, Option, Some, None, IsSome}
use Rattle.std.specs.Prelude.{IsSomeAnd}
use Rattle.std.specs.Prelude.{Result, Ok, Err, if◌then◌else◌, unwrap_or}
use Rattle.std.specs.List.{All}
use Rattle.std.specs.Option.{ForSome, option_copied}
use Rattle.ca_store.specs.Store.{Files}
use Rattle.ca_cell.specs.declared.strength.StrengthTable.{StrengthTable}
use Rattle.ca_cell.specs.Strength.{default_table}
use Rattle.ca_cell.specs.Library.{Named, IsEntry}
use Rattle.ca_strengths.specs.StrengthText.{strengths_of}
use Rattle.ca_spice.specs.Reading.{library_of}
use Rattle.ca_spice.specs.Views.{subcircuit_seen}
use Rattle.ca_verilog.specs.declared.raw.RawNetlist.{RawNetlist}
use Rattle.ca_verilog.specs.Text.{netlist_of}
use Rattle.ca_wiring.specs.declared.scan_row.ScanRow.{ScanRow}
use Rattle.ca_scan.specs.Table.{table_of}
use Rattle.ca_load.specs.declared.loading.FileNames.{FileNames}
use Rattle.ca_load.specs.declared.cells.CellNames.{CellNames}
use Rattle.ca_load.specs.declared.cells.TypedCells.{TypedCells}
use Rattle.ca_load.specs.declared.strengths.TheConstants.{MAX_STRENGTHS}
use Rattle.ca_load.specs.declared.cells.TheConstants.{MAX_CELLS}
use Rattle.ca_load.specs.declared.netlists.TheConstants.{MAX_NETLIST}
use Rattle.ca_load.specs.declared.tables.TheConstants.{MAX_SCAN}
use Rattle.ca_load.specs.Files.{IsFileWith, OfFile}

-- the names of the files of a cell netlist: that of the strength table under which it is read, or none, and
-- its own
pub record CellFiles : Type 0 where
  pub table : Option (List ℕ)
  pub name : List ℕ

-- the name is that of one of these files
abbrev pub IsCellFile : CellFiles → List ℕ → Type 0
IsCellFile names name = (names.table ≡ Some name) ⊎ (name ≡ names.name)

-- the names, as they were typed
abbrev pub cells_of : CellNames → CellFiles
cells_of names = record { table = option_copied names.table; name = names.name.now }

-- the names of a cell netlist's files stand in memory of their own; where none is named it is empty
pub record AreTypedCells (names : CellFiles) (typed : TypedCells) : Type 0 where
  pub table_is : typed.table ≡ unwrap_or names.table []
  pub name_is : typed.name ≡ names.name

-- the table, where a text reads as one
abbrev pub table_read : Result StrengthTable ℕ → Option StrengthTable
table_read (Ok table) = Some table
table_read (Err row) = None

-- the table of the file with these bytes, which are no more than there may be
abbrev pub table_within : Option (List ℕ) → Option StrengthTable
table_within None = None
table_within (Some bytes) =
    if nat_le (length bytes) MAX_STRENGTHS then table_read (strengths_of bytes) else None

-- the strength table under which a cell netlist is read: that of the file, where one is named, and else the
-- one that holds where none is
abbrev pub strengths_in : Option (List ℕ) → Files → Option StrengthTable
strengths_in None reported = Some default_table
strengths_in (Some name) reported = table_within (reported name)

-- there is such a table, where the files are known
abbrev pub HasStrengths : Option Files → Option (List ℕ) → Type 0
HasStrengths files name = ForSome files (λ reported. IsSome (strengths_in name reported))

-- there is such a table, the cell netlist's file is there and no longer than it may be, and this holds of the
-- table and of its bytes
abbrev pub AreCellsWith : Files → CellFiles → (StrengthTable → List ℕ → Type 0) → Type 0
AreCellsWith reported names Holds = IsSomeAnd (strengths_in names.table reported)
    (λ table. IsFileWith reported names.name MAX_CELLS (Holds table))

-- the same, where the files are known
abbrev pub OfCells : Option Files → CellFiles → (StrengthTable → List ℕ → Type 0) → Type 0
OfCells files names Holds = ForSome files (λ reported. AreCellsWith reported names Holds)

-- the text reads under a table as the library: as its subcircuits, each a cell where it keeps the rules of a
-- used cell, and else with the first rule that it breaks
pub record IsLibraryOf (library : List Named) (table : StrengthTable) (bytes : List ℕ) : Type 0 where
  pub reads : library_of table bytes ≡ Ok (map subcircuit_seen library)
  pub entries : All (λ named. IsEntry named.entry) library

-- the text reads as the netlist
abbrev pub IsNetlistOf : RawNetlist → List ℕ → Type 0
IsNetlistOf netlist bytes = netlist_of bytes ≡ Ok netlist

-- the text reads as the rows of a table of scan cells
abbrev pub IsTableOf : List ScanRow → List ℕ → Type 0
IsTableOf rows bytes = table_of bytes ≡ Ok rows

-- the rows are those of the file, if there is a name, and else none
abbrev pub IsTableAt : Option Files → Option (List ℕ) → List ScanRow → Type 0
IsTableAt files None rows = rows ≡ []
IsTableAt files (Some name) rows = OfFile files name MAX_SCAN (IsTableOf rows)

-- the names of the files: those of a cell netlist, that of a gate netlist, and that of a table of scan cells
-- or none
pub record InputFiles : Type 0 where
  pub cells : CellFiles
  pub netlist : List ℕ
  pub scan : Option (List ℕ)

-- the names, as they were typed
abbrev pub names_of : FileNames → InputFiles
names_of names = record {
  cells = cells_of names.cells;
  netlist = names.netlist.now;
  scan = option_copied names.scan;
}

-- a library, a gate netlist, and the rows of a table of scan cells
pub record Inputs : Type 0 where
  pub library : List Named
  pub netlist : RawNetlist
  pub rows : List ScanRow

-- the files are there, none longer than it may be, and read as these
pub record ReadAs (names : InputFiles) (inputs : Inputs) (reported : Files) : Type 0 where
  pub library : AreCellsWith reported names.cells (IsLibraryOf inputs.library)
  pub netlist : IsFileWith reported names.netlist MAX_NETLIST (IsNetlistOf inputs.netlist)
  pub rows : IsTableAt (Some reported) names.scan inputs.rows

-- where the files are known, this holds of what they read as
abbrev pub OfInputs : Option Files → InputFiles → (Inputs → Type 0) → Type 0
OfInputs files names Holds =
    ForSome files (λ reported. (inputs : Inputs) × (ReadAs names inputs reported × Holds inputs))
