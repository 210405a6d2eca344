-- How what is said of a file follows from what is said of its bytes, and the causes of the readings from
-- those of the stages.
use Rattle.std.proofs.Common.{ℕ, ◌≡◌, ◌≤◌, ◌⊎◌, inl, inr, refl, sym, subst, List, length, Option, Some, None}
use Rattle.std.proofs.Common.{Ok}
use Rattle.std.specs.Prelude.{IsOk, IsSomeAnd}
use Rattle.ca_store.specs.Store.{Files}
use Rattle.ca_store.specs.ReadFault.{IsWhole}
use Rattle.ca_cell.specs.declared.strength.StrengthTable.{StrengthTable}
use Rattle.ca_cell.specs.Library.{Named}
use Rattle.ca_verilog.specs.declared.raw.RawNetlist.{RawNetlist}
use Rattle.ca_wiring.specs.declared.scan_row.ScanRow.{ScanRow}
use Rattle.ca_fault.specs.declared.fault.Fault.{Fault}
use Rattle.ca_load.specs.declared.cells.TheConstants.{MAX_CELLS}
use Rattle.ca_load.specs.declared.netlists.TheConstants.{MAX_NETLIST}
use Rattle.ca_load.specs.Files.{OfFile, ReportsStoreFault}
use Rattle.ca_load.specs.Texts.{CellFiles, strengths_in, AreCellsWith, OfCells, IsLibraryOf, IsNetlistOf, IsTableAt}
use Rattle.ca_load.specs.Texts.{InputFiles, Inputs}
use Rattle.ca_load.specs.code.Texts.{AreRead}
use Rattle.ca_load.specs.Causes.{HasLibrary, HasNetlist, IsLibraryCause, IsNetlistCause, IsScanCause}
use Rattle.ca_load.specs.Causes.{IsInputCause}

-- what holds of the bytes that were read holds of the file
pub of_whole : (files : Option Files) (name bytes : List ℕ) (limit : ℕ) (Holds : List ℕ → Type 0)
    → IsWhole files name limit bytes → Holds bytes → OfFile files name limit Holds
of_whole files name bytes limit Holds whole holds = λ reported is. rw (whole.all reported is) (whole.within, holds)

-- what follows from the bytes' property holds of the file too
pub of_file_then : (files : Option Files) (name : List ℕ) (limit : ℕ) (P Q : List ℕ → Type 0)
    → ((bytes : List ℕ) → P bytes → Q bytes) → OfFile files name limit P → OfFile files name limit Q
of_file_then files name limit P Q next held = λ reported is. at (reported name) (held reported is)
  where
    at : (there : Option (List ℕ)) → IsSomeAnd there (λ bytes. (length bytes ≤ limit) × P bytes)
        → IsSomeAnd there (λ bytes. (length bytes ≤ limit) × Q bytes)
    at None missing = absurd missing
    at (Some bytes) (within, here) = (within, next bytes here)

-- the same of a cell netlist and its strength table
pub of_cells_then : (files : Option Files) (names : CellFiles) (P Q : StrengthTable → List ℕ → Type 0)
    → ((table : StrengthTable) (bytes : List ℕ) → P table bytes → Q table bytes) → OfCells files names P → OfCells files names Q
of_cells_then files names P Q next held =
    λ reported is. at reported (strengths_in names.table reported) (reported names.name) (held reported is)
  where
    at_file : (table : StrengthTable) (there : Option (List ℕ)) → IsSomeAnd there (λ bytes. (length bytes ≤ MAX_CELLS) × P table bytes)
        → IsSomeAnd there (λ bytes. (length bytes ≤ MAX_CELLS) × Q table bytes)
    at_file table None missing = absurd missing
    at_file table (Some bytes) (within, here) = (within, next table bytes here)

    at : (reported : Files) (under : Option StrengthTable) (there : Option (List ℕ))
        → IsSomeAnd under (λ table. IsSomeAnd there (λ bytes. (length bytes ≤ MAX_CELLS) × P table bytes))
        → IsSomeAnd under (λ table. IsSomeAnd there (λ bytes. (length bytes ≤ MAX_CELLS) × Q table bytes))
    at reported None there missing = absurd missing
    at reported (Some table) there here = at_file table there here

pub has_library : (files : Option Files) (names : CellFiles) (library : List Named)
    → OfCells files names (IsLibraryOf library) → HasLibrary files names
has_library files names library read = of_cells_then files names (IsLibraryOf library) _ (λ table bytes is. rw is.reads refl) read

pub has_netlist : (files : Option Files) (name : List ℕ) (netlist : RawNetlist)
    → OfFile files name MAX_NETLIST (IsNetlistOf netlist) → HasNetlist files name
has_netlist files name netlist read =
    of_file_then files name MAX_NETLIST (IsNetlistOf netlist) _ (λ bytes is. rw is refl) read

-- the counts of a store may be compared with an earlier one that is the same
pub reported_since : (fault : Option Fault) (before mid after : ℕ) → mid ≡ before → ReportsStoreFault fault mid after
    → ReportsStoreFault fault before after
reported_since fault before mid after quiet reported = subst (λ count. ReportsStoreFault fault count after) quiet reported

module _ (names : InputFiles) (files mid : Option Files) (before between after : ℕ) (kept : mid ≡ files)
    (quiet : between ≡ before) (library : List Named)
    (cells : OfCells files names.cells (IsLibraryOf library)) (fault : Fault) where
  -- a gate netlist that wasn't read, after a cell netlist that was
  pub at_netlist : IsNetlistCause names.netlist mid between after fault
      → IsInputCause names files before after fault
  at_netlist cause =
      let here : IsNetlistCause names.netlist files before after fault = rw (kept, quiet) at cause in
      inr (inl (has_library files names.cells library cells, here))

  -- a table of scan cells that wasn't read, after both
  pub at_scan : (netlist : RawNetlist) → OfFile files names.netlist MAX_NETLIST (IsNetlistOf netlist)
      → IsScanCause names.scan mid between after fault → IsInputCause names files before after fault
  at_scan netlist read cause =
      let here : IsScanCause names.scan files before after fault = rw (kept, quiet) at cause in
      inr (inr (has_library files names.cells library cells, (has_netlist files names.netlist netlist read, here)))

-- what was read is what the files read as
pub are_read : (names : InputFiles) (files : Option Files) (library : List Named) (netlist : RawNetlist)
    (rows : List ScanRow) → OfCells files names.cells (IsLibraryOf library)
    → OfFile files names.netlist MAX_NETLIST (IsNetlistOf netlist) → IsTableAt files names.scan rows
    → AreRead files names (record { library = library; netlist = netlist; rows = rows })
are_read names files library netlist rows cells module_ table = λ reported is. record {
  library = cells reported is;
  netlist = module_ reported is;
  rows = subst (λ (some : Option Files). IsTableAt some names.scan rows) is table;
}
