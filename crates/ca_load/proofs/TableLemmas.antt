-- How what is said of a strength table and of a cell netlist that was read under it is said of their files.
use Rattle.std.proofs.Common.{ℕ, ◌≡◌, ◌≤◌, ◌⊎◌, ◌∙◌, inl, inr, refl, sym, subst, arith, true, false, Bool, List, length, Option, Some}
use Rattle.std.proofs.Common.{None, Result, Ok, Err, IfOk, IfErr}
use Rattle.std.specs.Prelude.{IsSome, IsSomeAnd, if◌then◌else◌, nat_le}
use Rattle.std.proofs.lemmas.Bool.{le-leb, leb-true}
use Rattle.ca_store.specs.Store.{Files}
use Rattle.ca_cell.specs.declared.strength.StrengthTable.{StrengthTable}
use Rattle.ca_cell.specs.Strength.{default_table}
use Rattle.ca_strengths.specs.StrengthText.{strengths_of}
use Rattle.ca_fault.specs.declared.fault.Fault.{Fault}
use Rattle.ca_fault.specs.declared.fault.Fault.TheVariants.{Cells, Limit}
use Rattle.ca_fault.specs.declared.fault.LimitKind.TheVariants as limit
use Rattle.ca_load.specs.declared.cells.TheConstants.{MAX_CELLS}
use Rattle.ca_load.specs.declared.strengths.TheConstants.{MAX_STRENGTHS}
use Rattle.ca_load.specs.Files.{OfFile}
use Rattle.ca_load.specs.Texts.{CellFiles, table_read, table_within, strengths_in, HasStrengths, OfCells}
use Rattle.ca_load.specs.Causes.{IsTextCause, IsCellsCause, IsStrengthsCause, IsLibraryCause}
use Rattle.ca_load.specs.code.Texts.{IsTableText, IsStrengthsAt}
use Rattle.ca_load.specs.code.Stages.{IsFileStage, IsLineStage}

-- where no file is named
pub default_at : (files : Option Files) → IsStrengthsAt files None default_table
default_at files = λ reported is. refl

-- bytes that read as a table
pub table_of_bytes : (bytes : List ℕ) (table : StrengthTable) → length bytes ≤ MAX_STRENGTHS → strengths_of bytes ≡ Ok table
    → table_within (Some bytes) ≡ Some table
table_of_bytes bytes table within reads =
    (λ j. if le-leb (length bytes) MAX_STRENGTHS within j then table_read (strengths_of bytes) else None)
    ∙ (λ j. table_read (reads j))

-- a file that reads as a table
pub table_of_file : (there : Option (List ℕ)) (table : StrengthTable)
    → IsSomeAnd there (λ bytes. (length bytes ≤ MAX_STRENGTHS) × IsTableText table bytes) → table_within there ≡ Some table
table_of_file None table held = absurd held
table_of_file (Some bytes) table held = table_of_bytes bytes table held.0 held.1

-- and back
read_back : (answer : Result StrengthTable ℕ) (table : StrengthTable) → table_read answer ≡ Some table → answer ≡ Ok table
read_back (Ok other) table is = let same : other ≡ table = cc in (λ j. Ok (same j))
read_back (Err row) table is = absurd (let clash : None ≡ Some table = is in cc)

pub file_of_table : (there : Option (List ℕ)) (table : StrengthTable) → table_within there ≡ Some table
    → IsSomeAnd there (λ bytes. (length bytes ≤ MAX_STRENGTHS) × IsTableText table bytes)
file_of_table None table is = absurd (let clash : None ≡ Some table = is in cc)
file_of_table (Some bytes) table is = by (nat_le (length bytes) MAX_STRENGTHS) refl is
  where
    by : (test : Bool) → nat_le (length bytes) MAX_STRENGTHS ≡ test
        → (if test then table_read (strengths_of bytes) else None) ≡ Some table
        → (length bytes ≤ MAX_STRENGTHS) × IsTableText table bytes
    by true within found = (leb-true (length bytes) MAX_STRENGTHS within, read_back (strengths_of bytes) table found)
    by false past found = absurd (let clash : None ≡ Some table = found in cc)

pub named_table : (reported : Files) (name : List ℕ) (table : StrengthTable) → strengths_in (Some name) reported ≡ Some table
    → table_within (reported name) ≡ Some table
named_table reported name table is = is

pub named_at : (files : Option Files) (name : List ℕ) (table : StrengthTable) → OfFile files name MAX_STRENGTHS (IsTableText table)
    → IsStrengthsAt files (Some name) table
named_at files name table read = λ reported is. table_of_file (reported name) table (read reported is)

-- the same of an answer, where a file is named
pub named_ok : (result : Result StrengthTable Fault) (files : Option Files) (name : List ℕ) (given : Option (List ℕ)) → given ≡ Some name
    → IfOk result (λ table. OfFile files name MAX_STRENGTHS (IsTableText table)) → IfOk result (IsStrengthsAt files given)
named_ok (Ok table) files name given is read = subst (λ (g : Option (List ℕ)). IsStrengthsAt files g table) (sym is) (named_at files name table read)
named_ok (Err fault) files name given is read = tt

-- a strength table that wasn't read
pub at_strengths : (files : Option Files) (names : CellFiles) (before after : ℕ) (fault : Fault)
    → IsStrengthsCause names.table files before after fault → IsLibraryCause names files before after fault
at_strengths files names before after fault cause = inr (inl cause)

module _ (files : Option Files) (names : CellFiles) (table : StrengthTable) (under : IsStrengthsAt files names.table table) where
  pub has_strengths : HasStrengths files names.table
  has_strengths = λ reported is. rw (under reported is) refl

  -- what holds of the bytes of the cell netlist's file, under the table
  pub of_table : (Holds : StrengthTable → List ℕ → Type 0) → OfFile files names.name MAX_CELLS (Holds table) → OfCells files names Holds
  of_table Holds held = λ reported is. rw (under reported is) (held reported is)

  line_cause : (fault : Fault) → IsLineStage table names.name files fault → IsCellsCause names files fault
  line_cause (Cells line kind) cause = of_table (IsTextCause (Cells line kind)) cause
  line_cause (Limit limit.Cells count) cause = of_table (IsTextCause (Limit limit.Cells count)) cause
  line_cause fault cause = absurd cause

  -- a cell netlist that wasn't read, under a table that was
  pub at_cells : (mid : Option Files) (before between after : ℕ) → mid ≡ files → between ≡ before → (fault : Fault)
      → IsFileStage table names.name mid between after fault → IsLibraryCause names files before after fault
  at_cells mid before between after kept quiet fault cause =
      let here : IsFileStage table names.name files before after fault = rw (kept, quiet) at cause in
      by here
    where
      by : IsFileStage table names.name files before after fault → IsLibraryCause names files before after fault
      by (inl read) = inr (inr (inl (has_strengths, read)))
      by (inr line) = inr (inr (inr (line_cause fault line)))
