-- What is reported of the files of a cell netlist: of its strength table first, and then of its text under it.
use Rattle.std.proofs.Common.{ℕ, ◌≡◌, ◌≤◌, ◌⊎◌, ◌∙◌, inl, inr, refl, sym, ap, subst, List, length, Option, Some, None}
use Rattle.std.proofs.Common.{Result, Ok, Err, true≢false}
use Rattle.std.specs.Prelude.{IsSome, IsSomeAnd}
use Rattle.ca_store.specs.Store.{Files}
use Rattle.ca_cell.specs.declared.strength.StrengthTable.{StrengthTable}
use Rattle.ca_strengths.specs.StrengthText.{strengths_of}
use Rattle.ca_fault.specs.declared.fault.Fault.{Fault}
use Rattle.ca_fault.specs.declared.fault.Fault.TheVariants.{Strengths}
use Rattle.ca_load.specs.declared.cells.TheConstants.{MAX_CELLS}
use Rattle.ca_load.specs.declared.strengths.TheConstants.{MAX_STRENGTHS}
use Rattle.ca_load.specs.Files.{IsFileWith, IsReadCause}
use Rattle.ca_load.specs.Texts.{CellFiles, IsCellFile, table_within, strengths_in, AreCellsWith, HasStrengths, OfCells}
use Rattle.ca_load.specs.Causes.{IsRatioCause, IsRatiosCause, IsStrengthsCause}
use Rattle.ca_load.specs.code.Texts.{IsTableText}
use Rattle.ca_load.proofs.TableLemmas.{file_of_table, named_table}
use Rattle.ca_flow_laws.specs.Same.{IsInputFault}
use Rattle.ca_flow_laws.proofs.FileLemmas.{AtFile, one_at_file, none_of_read, of_bytes, of_file, of_read}

-- what is reported of a reading of a strength table
abbrev pub AtRatios : {S : Type 0} → Result S ℕ → Fault → Type 0
AtRatios (Ok table) fault = ⊥
AtRatios (Err row) fault = fault ≡ Strengths row

one_ratios : {S : Type 0} (read : Result S ℕ) (fault other : Fault) → AtRatios read fault → AtRatios read other → fault ≡ other
one_ratios (Ok table) fault other here there = absurd here
one_ratios (Err row) fault other here there = here ∙ sym there

read_ratios : {S : Type 0} (read : Result S ℕ) (table : S) (fault : Fault) → AtRatios read fault → read ≡ Ok table → ⊥
read_ratios (Ok table) also fault here ok = here
read_ratios (Err row) also fault here ok = absurd cc

abbrev pub ReportsRatios : Fault → List ℕ → Type 0
ReportsRatios fault bytes = AtRatios (strengths_of bytes) fault

-- of the table, where one is named
abbrev pub AtStrengths : Option (List ℕ) → Files → Fault → Type 0
AtStrengths None given fault = ⊥
AtStrengths (Some name) given fault = AtFile MAX_STRENGTHS name ReportsRatios (given name) fault

-- of the cell netlist under the table
abbrev pub AtUnder : CellFiles → Files → (StrengthTable → Fault → List ℕ → Type 0) → Fault → Type 0
AtUnder names given Reports fault =
    IsSomeAnd (strengths_in names.table given) (λ table. AtFile MAX_CELLS names.name (Reports table) (given names.name) fault)

-- of both
abbrev pub AtCells : CellFiles → Files → (StrengthTable → Fault → List ℕ → Type 0) → Fault → Type 0
AtCells names given Reports fault = AtStrengths names.table given fault ⊎ AtUnder names given Reports fault

-- a table that is read has no fault
no_strengths : (name : Option (List ℕ)) (given : Files) (table : StrengthTable) → strengths_in name given ≡ Some table → (fault : Fault)
    → AtStrengths name given fault → ⊥
no_strengths None given table is fault here = here
no_strengths (Some name) given table is fault here =
    none_of_read MAX_STRENGTHS name ReportsRatios (IsTableText table) (given name) fault
    (λ bytes. read_ratios (strengths_of bytes) table fault) here (file_of_table (given name) table (named_table given name table is))

one_strengths : (name : Option (List ℕ)) (given : Files) (fault other : Fault) → AtStrengths name given fault → AtStrengths name given other
    → fault ≡ other
one_strengths None given fault other here there = absurd here
one_strengths (Some name) given fault other here there =
    one_at_file MAX_STRENGTHS name ReportsRatios (λ bytes. one_ratios (strengths_of bytes)) (given name) fault other here there

module _ (names : CellFiles) (given : Files) (Reports : StrengthTable → Fault → List ℕ → Type 0) where
  -- it is one fault, where the text has one under each table
  pub one_at_cells : ((table : StrengthTable) (bytes : List ℕ) (fault other : Fault) → Reports table fault bytes → Reports table other bytes
      → fault ≡ other) → (fault other : Fault) → AtCells names given Reports fault → AtCells names given Reports other → fault ≡ other
  one_at_cells one fault other here there = by (strengths_in names.table given) refl here there
    where
      by : (under : Option StrengthTable) → strengths_in names.table given ≡ under
          → AtStrengths names.table given fault
          ⊎ IsSomeAnd under (λ table. AtFile MAX_CELLS names.name (Reports table) (given names.name) fault)
          → AtStrengths names.table given other
          ⊎ IsSomeAnd under (λ table. AtFile MAX_CELLS names.name (Reports table) (given names.name) other)
          → fault ≡ other
      by None is (inl here) (inl there) = one_strengths names.table given fault other here there
      by None is (inr here) there = absurd here
      by None is here (inr there) = absurd there
      by (Some table) is (inl here) there = absurd (no_strengths names.table given table is fault here)
      by (Some table) is here (inl there) = absurd (no_strengths names.table given table is other there)
      by (Some table) is (inr here) (inr there) =
          one_at_file MAX_CELLS names.name (Reports table) (one table) (given names.name) fault other here there

  -- files that are read have none
  pub none_of_cells : (Reads : StrengthTable → List ℕ → Type 0) (fault : Fault)
      → ((table : StrengthTable) (bytes : List ℕ) → Reports table fault bytes → Reads table bytes → ⊥)
      → AtCells names given Reports fault → AreCellsWith given names Reads → ⊥
  none_of_cells Reads fault never here reads = by (strengths_in names.table given) refl here reads
    where
      by : (under : Option StrengthTable) → strengths_in names.table given ≡ under
          → AtStrengths names.table given fault
          ⊎ IsSomeAnd under (λ table. AtFile MAX_CELLS names.name (Reports table) (given names.name) fault)
          → IsSomeAnd under (λ table. IsFileWith given names.name MAX_CELLS (Reads table)) → ⊥
      by None is here reads = reads
      by (Some table) is (inl here) reads = no_strengths names.table given table is fault here
      by (Some table) is (inr here) reads =
          none_of_read MAX_CELLS names.name (Reports table) (Reads table) (given names.name) fault (never table) here reads

-- what is known of the store of these files, where it has the given ones
module _ (files : Option Files) (reported : Files) (are : files ≡ Some reported) (names : CellFiles) (given : Files)
    (agree : (name : List ℕ) → IsCellFile names name → reported name ≡ given name) where
  agree_name : reported names.name ≡ given names.name
  agree_name = agree names.name (inr refl)

  -- the table is that of the given files
  pub same_strengths : strengths_in names.table reported ≡ strengths_in names.table given
  same_strengths = by names.table (λ name is. agree name (inl is))
    where
      by : (table : Option (List ℕ)) → ((name : List ℕ) → table ≡ Some name → reported name ≡ given name)
          → strengths_in table reported ≡ strengths_in table given
      by None same = refl
      by (Some name) same = ap table_within (same name refl)

  -- what the store has holds of the given files
  pub cells_given : (P : StrengthTable → List ℕ → Type 0) → AreCellsWith reported names P → AreCellsWith given names P
  cells_given P held = by (strengths_in names.table given) (subst
      (λ under. IsSomeAnd under (λ table. IsFileWith reported names.name MAX_CELLS (P table))) same_strengths held)
    where
      by : (under : Option StrengthTable) → IsSomeAnd under (λ table. IsFileWith reported names.name MAX_CELLS (P table))
          → IsSomeAnd under (λ table. IsFileWith given names.name MAX_CELLS (P table))
      by None held = held
      by (Some table) held =
          subst (λ there. IsSomeAnd there (λ bytes. (length bytes ≤ MAX_CELLS) × P table bytes)) agree_name held

  pub of_cells : (P : StrengthTable → List ℕ → Type 0) → OfCells files names P → AreCellsWith given names P
  of_cells P held = cells_given P (held reported are)

  module _ (Reports : StrengthTable → Fault → List ℕ → Type 0) (fault : Fault) where
    -- the text that has the fault
    pub of_cells_text : (P : StrengthTable → List ℕ → Type 0)
        → ((table : StrengthTable) (bytes : List ℕ) → P table bytes → Reports table fault bytes) → OfCells files names P
        → AtCells names given Reports fault
    of_cells_text P next held = inr (by (strengths_in names.table given) (of_cells P held))
      where
        by : (under : Option StrengthTable) → IsSomeAnd under (λ table. IsFileWith given names.name MAX_CELLS (P table))
            → IsSomeAnd under (λ table. AtFile MAX_CELLS names.name (Reports table) (given names.name) fault)
        by None held = held
        by (Some table) held = of_bytes MAX_CELLS names.name (Reports table) (given names.name) (P table) fault (next table) held

    module _ (before after : ℕ) (input : IsInputFault fault) where
      of_ratios : (name : List ℕ) → reported name ≡ given name → (fault : Fault) → IsRatiosCause name files fault
          → AtFile MAX_STRENGTHS name ReportsRatios (given name) fault
      of_ratios name same (Strengths row) cause =
          of_bytes MAX_STRENGTHS name ReportsRatios (given name) (IsRatioCause (Strengths row)) (Strengths row) (λ bytes is. rw is refl)
          (of_file files reported are name (given name) same MAX_STRENGTHS (IsRatioCause (Strengths row)) cause)
      of_ratios name same fault cause = absurd cause

      of_strengths : (table : Option (List ℕ)) → ((name : List ℕ) → table ≡ Some name → reported name ≡ given name)
          → IsStrengthsCause table files before after fault → AtStrengths table given fault
      of_strengths None same cause = absurd cause
      of_strengths (Some name) same (inl read) =
          of_read files reported are name (given name) (same name refl) MAX_STRENGTHS ReportsRatios before after fault input read
      of_strengths (Some name) same (inr text) = of_ratios name (same name refl) fault text

      -- why the table wasn't read
      pub of_table : IsStrengthsCause names.table files before after fault → AtCells names given Reports fault
      of_table cause = inl (of_strengths names.table (λ name is. agree name (inl is)) cause)

      -- why the cell netlist wasn't, after a table that was
      pub of_cells_read : HasStrengths files names.table → IsReadCause names.name files MAX_CELLS before after fault
          → AtCells names given Reports fault
      of_cells_read has read = inr (by (strengths_in names.table given) (subst IsSome same_strengths (has reported are)))
        where
          by : (under : Option StrengthTable) → IsSome under
              → IsSomeAnd under (λ table. AtFile MAX_CELLS names.name (Reports table) (given names.name) fault)
          by None some = absurd (true≢false (sym some))
          by (Some table) some =
              of_read files reported are names.name (given names.name) agree_name MAX_CELLS (Reports table) before after fault input read
