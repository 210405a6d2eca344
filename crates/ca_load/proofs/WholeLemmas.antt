-- Files that give a chip are refused only when out of memory, or where the store failed.
use Rattle.std.proofs.Common.{ℕ, ◌≡◌, ◌≤◌, ◌<◌, ◌⊎◌, ◌∙◌, inl, inr, refl, sym, ap, subst, arith, List, length}
use Rattle.std.proofs.Common.{Option, Some, None, Result, Ok, Err}
use Rattle.std.specs.Prelude.{IsSome, IsSomeAnd}
use Rattle.std.proofs.lemmas.Option.{same_Some}
use Rattle.ca_store.specs.Store.{Files, Rose, MayHave}
use Rattle.ca_cell.specs.declared.strength.StrengthTable.{StrengthTable}
use Rattle.ca_spice.specs.declared.fault.SpiceFault.TheVariants as spice
use Rattle.ca_spice.specs.Reading.{library_of}
use Rattle.ca_verilog.specs.declared.fault.VerilogFault.TheVariants as verilog
use Rattle.ca_verilog.specs.Text.{netlist_of}
use Rattle.ca_linked.specs.Linked.{LinkedChip}
use Rattle.ca_wiring.specs.declared.fault.ChipFault.{ChipFault}
use Rattle.ca_wiring.specs.declared.fault.ChipFault.TheVariants as rule
use Rattle.ca_scan.specs.declared.fault.ChainFault.TheVariants as chain
use Rattle.ca_scan.specs.Table.{table_of}
use Rattle.ca_scan.specs.ChainFault.{AreAllChains, IsChainCause}
use Rattle.ca_scan.proofs.AnswerLemmas.{one_answer}
use Rattle.ca_fault.specs.declared.fault.LimitKind.TheVariants as limit
use Rattle.ca_fault.specs.declared.fault.Fault.{Fault}
use Rattle.ca_fault.specs.declared.fault.Fault.TheVariants.{Strengths, Cells, Netlist, Scan, Cell, Chain, TooLong}
use Rattle.ca_fault.specs.declared.fault.Fault.TheVariants.{Limit, StoreFailed, NoMemory}
use Rattle.ca_fault.specs.declared.fault.Fault.TheVariants as fault_
use Rattle.ca_load.specs.declared.cells.TheConstants.{MAX_CELLS}
use Rattle.ca_load.specs.declared.netlists.TheConstants.{MAX_NETLIST}
use Rattle.ca_load.specs.declared.tables.TheConstants.{MAX_SCAN}
use Rattle.ca_load.specs.Files.{IsFileWith, OfFile, IsReadCause}
use Rattle.ca_load.specs.declared.strengths.TheConstants.{MAX_STRENGTHS}
use Rattle.ca_load.specs.Texts.{CellFiles, strengths_in, AreCellsWith, OfCells, IsLibraryOf, IsNetlistOf, IsTableOf}
use Rattle.ca_load.specs.Texts.{IsTableAt, InputFiles, Inputs, ReadAs, OfInputs}
use Rattle.ca_load.specs.code.Texts.{IsTableText}
use Rattle.ca_load.specs.Chips.{IsChipOf, BreakFirst, IsLinkingCause, IsTracingCause, LackChains, IsChipCause}
use Rattle.ca_load.specs.Chips.{GiveChip}
use Rattle.ca_load.specs.Causes.{IsRatioCause, IsRatiosCause, IsStrengthsCause, IsLibraryCause}
use Rattle.ca_load.specs.Causes.{IsTextCause, IsCellsCause, IsModuleCause, IsTokensCause, IsRecordCause}
use Rattle.ca_load.specs.Causes.{IsRowsCause, IsScanCause, IsInputCause, IsLinkedCause, IsLoadCause}
use Rattle.ca_load.proofs.SameLemmas.{one_reading}
use Rattle.ca_load.proofs.TableLemmas.{named_table, file_of_table}

-- the fault is that of a call of the store, or out of memory
abbrev pub IsOutsideFault : Fault → ℕ → ℕ → Type 0
IsOutsideFault fault before after = (fault ≡ NoMemory) ⊎ ((name : List ℕ) × ((fault ≡ StoreFailed name) × Rose before after))

module _ (files : Option Files) (reported : Files) (are : files ≡ Some reported) (before after : ℕ) where
  -- what is said of a file holds of the bytes that it has
  pub at_bytes : (name bytes : List ℕ) (most : ℕ) (P : List ℕ → Type 0) → reported name ≡ Some bytes
      → OfFile files name most P → P bytes
  at_bytes name bytes most P there held =
      let here : IsSomeAnd (Some bytes) (λ bytes. (length bytes ≤ most) × P bytes) = rw there at (held reported are) in
      here.1

  -- a file that is there, and is not too long, is read
  pub at_read : (name bytes : List ℕ) (most : ℕ) → reported name ≡ Some bytes → length bytes ≤ most → (fault : Fault)
      → IsReadCause name files most before after fault → IsOutsideFault fault before after
  at_read name bytes most there within (TooLong typed taken) (same, long) =
      let past : IsSomeAnd (Some bytes) (λ bytes. most < length bytes) = rw there at (long.past reported are) in
      absurd (omega (arith, past, within))
  at_read name bytes most there within (StoreFailed typed) (same, rose) =
      let is_there : MayHave files name = λ other is. rw (sym (same_Some reported other (sym are ∙ is)), there) refl in
      inr (typed, (refl, rose is_there))
  at_read name bytes most there within NoMemory cause = inl refl
  at_read name bytes most there within fault cause = absurd cause

  -- what is said of a cell netlist holds of its bytes, under the table that its table's file is
  pub under : (names : CellFiles) (table : StrengthTable) (P : StrengthTable → List ℕ → Type 0)
      → strengths_in names.table reported ≡ Some table → OfCells files names P → OfFile files names.name MAX_CELLS (P table)
  under names table P is held = λ other told.
      let here : IsSomeAnd (Some table) (λ table. IsFileWith reported names.name MAX_CELLS (P table)) = rw is at (held reported are) in
      subst (λ (it : Files). IsFileWith it names.name MAX_CELLS (P table)) (same_Some reported other (sym are ∙ told)) here

  at_cells : (names : CellFiles) (table : StrengthTable) → strengths_in names.table reported ≡ Some table → (bytes : List ℕ)
      → reported names.name ≡ Some bytes → (a : List _) → IsLibraryOf a table bytes → (fault : Fault)
      → IsCellsCause names files fault → ⊥
  at_cells names table is bytes there a reads (Cells line kind) cause =
      let broken = at_bytes names.name bytes MAX_CELLS (IsTextCause (Cells line kind) table) there
      (under names table (IsTextCause (Cells line kind)) is cause) in
      let both = sym reads.reads ∙ broken in cc
  at_cells names table is bytes there a reads (Limit limit.Cells count) cause =
      let broken = at_bytes names.name bytes MAX_CELLS (IsTextCause (Limit limit.Cells count) table) there
      (under names table (IsTextCause (Limit limit.Cells count)) is cause) in
      let both = sym reads.reads ∙ broken in cc
  at_cells names table is bytes there a reads fault cause = cause

  at_ratios : (name bytes : List ℕ) → reported name ≡ Some bytes → (table : StrengthTable) → IsTableText table bytes → (fault : Fault)
      → IsRatiosCause name files fault → ⊥
  at_ratios name bytes there table reads (Strengths row) cause =
      let broken = at_bytes name bytes MAX_STRENGTHS (IsRatioCause (Strengths row)) there cause in
      let both = sym reads ∙ broken in cc
  at_ratios name bytes there table reads fault cause = cause

  at_tokens : (name bytes : List ℕ) → reported name ≡ Some bytes → (a : _) → IsNetlistOf a bytes → (fault : Fault)
      → IsTokensCause name files fault → ⊥
  at_tokens name bytes there a reads (Netlist line kind) cause =
      let broken = at_bytes name bytes MAX_NETLIST (IsModuleCause (Netlist line kind)) there cause in
      let both = sym reads ∙ broken in cc
  at_tokens name bytes there a reads (Limit limit.Nets count) cause =
      let broken = at_bytes name bytes MAX_NETLIST (IsModuleCause (Limit limit.Nets count)) there cause in
      let both = sym reads ∙ broken in cc
  at_tokens name bytes there a reads fault cause = cause

  at_rows : (name bytes : List ℕ) → reported name ≡ Some bytes → (a : _) → IsTableOf a bytes → (fault : Fault)
      → IsRowsCause name files fault → ⊥
  at_rows name bytes there a reads (Scan row) cause =
      let broken = at_bytes name bytes MAX_SCAN (IsRecordCause (Scan row)) there cause in
      let both = sym reads ∙ broken in cc
  at_rows name bytes there a reads fault cause = cause

  -- a file with a reading, in either stage
  at_file : (name : List ℕ) (most : ℕ) (P : List ℕ → Type 0) → IsFileWith reported name most P → (fault : Fault)
      → (own : Type 0) → ((bytes : List ℕ) → reported name ≡ Some bytes → P bytes → own → ⊥)
      → IsReadCause name files most before after fault ⊎ own → IsOutsideFault fault before after
  at_file name most P reads fault own none cause = by (reported name) refl reads
    where
      by : (there : Option (List ℕ)) → reported name ≡ there
          → IsSomeAnd there (λ bytes. (length bytes ≤ most) × P bytes) → IsOutsideFault fault before after
      by None is held = absurd held
      by (Some bytes) is held = elim cause [
        | inl read ↦ at_read name bytes most is held.0 fault read
        | inr text ↦ absurd (none bytes is held.1 text)
      ]

  -- the strength table, where there is one
  pub at_strengths : (name : Option (List ℕ)) (table : StrengthTable) → strengths_in name reported ≡ Some table → (fault : Fault)
      → IsStrengthsCause name files before after fault → IsOutsideFault fault before after
  at_strengths None table is fault cause = absurd cause
  at_strengths (Some name) table is fault cause =
      at_file name MAX_STRENGTHS (IsTableText table) (file_of_table (reported name) table (named_table reported name table is)) fault
      (IsRatiosCause name files fault) (λ bytes there held. at_ratios name bytes there table held fault) cause

  -- files that read as a library
  pub at_library : (names : CellFiles) (a : List _) → AreCellsWith reported names (IsLibraryOf a) → (fault : Fault)
      → IsLibraryCause names files before after fault → IsOutsideFault fault before after
  at_library names a reads fault cause = by (strengths_in names.table reported) refl reads
    where
      by : (under : Option StrengthTable) → strengths_in names.table reported ≡ under
          → IsSomeAnd under (λ table. IsFileWith reported names.name MAX_CELLS (IsLibraryOf a table)) → IsOutsideFault fault before after
      by None is held = absurd held
      by (Some table) is held = elim cause [
        | inl memory ↦ inl memory
        | inr (inl strengths) ↦ at_strengths names.table table is fault strengths
        | inr (inr (inl (has, read))) ↦ at_file names.name MAX_CELLS (IsLibraryOf a table) held fault ⊥ (λ bytes there holds none. none) (inl read)
        | inr (inr (inr text)) ↦ at_file names.name MAX_CELLS (IsLibraryOf a table) held fault (IsCellsCause names files fault)
            (λ bytes there holds. at_cells names table is bytes there a holds fault) (inr text)
      ]

  at_scan : (scan : Option (List ℕ)) (rows : _) → IsTableAt (Some reported) scan rows → (fault : Fault)
      → IsScanCause scan files before after fault → IsOutsideFault fault before after
  at_scan None rows reads fault cause = absurd cause
  at_scan (Some name) rows reads fault cause =
      at_file name MAX_SCAN (IsTableOf rows) (reads reported refl) fault (IsRowsCause name files fault)
      (λ bytes is held. at_rows name bytes is rows held fault) cause

  module _ (names : InputFiles) (inputs : Inputs) (read : ReadAs names inputs reported) (gives : GiveChip inputs) where
    at_input : (fault : Fault) → IsInputCause names files before after fault → IsOutsideFault fault before after
    at_input fault (inl cause) = at_library names.cells inputs.library read.library fault cause
    at_input fault (inr (inl (has, cause))) =
        at_file names.netlist MAX_NETLIST (IsNetlistOf inputs.netlist) read.netlist fault
        (IsTokensCause names.netlist files fault)
        (λ bytes is held. at_tokens names.netlist bytes is inputs.netlist held fault) cause
    at_input fault (inr (inr (has, (too, cause)))) = at_scan names.scan inputs.rows read.rows fault cause

    no_break : (broken : ChipFault) → BreakFirst inputs broken → ⊥
    no_break broken first = gives.kept first.at broken first.breaks

    no_link : (fault : Fault) → IsLinkingCause inputs fault → ⊥
    no_link (Cell name broken place) (u, (of, (first, placed))) = no_break (rule.Cell u broken) first
    no_link (fault_.Chip broken place) (plain, (first, placed)) = no_break broken first
    no_link (Limit limit.Instances count) first = no_break (rule.TooManyInstances count) first
    no_link (Limit limit.Inputs count) first = no_break (rule.TooManyInputs count) first
    no_link (Limit limit.Outputs count) first = no_break (rule.TooManyOutputs count) first
    no_link (Limit limit.Defects count) first = no_break (rule.TooManyDefects count) first
    no_link fault cause = cause

    broken_is_memory : (u : _) → chain.ChainBroken u ≡ chain.NoMemory → ⊥
    broken_is_memory u same = cc

    many_is_memory : (count : ℕ) → chain.TooManyChains count ≡ chain.NoMemory → ⊥
    many_is_memory count same = cc

    no_trace : (chip : LinkedChip) → IsChipOf inputs chip → (fault : Fault) → IsTracingCause fault chip → ⊥
    no_trace chip is (Chain name) (u, (off, named)) =
        let all = gives.chains chip is in
        broken_is_memory (record { 0 = u })
        ((one_answer chip).not_both all.0 (chain.ChainBroken (record { 0 = u })) all.1 off)
    no_trace chip is (Limit limit.Chains count) many =
        let all = gives.chains chip is in
        many_is_memory count ((one_answer chip).not_both all.0 (chain.TooManyChains count) all.1 many)
    no_trace chip is fault cause = cause

    no_chip : (fault : Fault) → IsChipCause fault inputs → ⊥
    no_chip fault (inl link) = no_link fault link
    no_chip fault (inr lack) = no_trace lack.chip lack.is fault lack.cause

    no_linked : (fault : Fault) → IsLinkedCause names files fault → ⊥
    no_linked fault (is, held) =
        let found = held reported are in
        no_chip fault (subst (IsChipCause fault) (one_reading names reported found.0 inputs found.1.0 read) found.1.1)

    -- files that give a chip
    pub at_load : (fault : Fault) → IsLoadCause names files before after fault → IsOutsideFault fault before after
    at_load fault (inl cause) = at_input fault cause
    at_load fault (inr cause) = absurd (no_linked fault cause)
