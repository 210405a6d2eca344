-- Words that their files fit have no cause of a fault of input, and what a command did its work for, its words
-- and files fit.
use Rattle.std.proofs.Common.{ℕ, ◌≡◌, ◌≤◌, ◌⊎◌, ◌∙◌, inl, inr, refl, sym, ap, subst, arith, List, length}
use Rattle.std.proofs.Common.{Option, Some, None, Result, Ok, Err, true≢false}
use Rattle.std.specs.Prelude.{IsSome, IsNone, IsSomeAnd}
use Rattle.ca_store.specs.Store.{Files}
use Rattle.ca_lex.specs.Words.{upper_case}
use Rattle.ca_cell.specs.declared.strength.StrengthTable.{StrengthTable}
use Rattle.ca_cell.specs.declared.raw.RawCell.{RawCell}
use Rattle.ca_spice.specs.declared.fault.SpiceFault.{SpiceFault}
use Rattle.ca_spice.specs.Reading.{library_of}
use Rattle.ca_spice.specs.Called.{called_among, cell_called}
use Rattle.ca_load.specs.declared.cells.TheConstants.{MAX_CELLS}
use Rattle.ca_load.specs.Files.{IsFileWith}
use Rattle.ca_load.specs.Texts.{strengths_in}
use Rattle.ca_load.proofs.WholeLemmas.{IsOutsideFault}
use Rattle.ca_fault.specs.declared.fault.Fault.{Fault}
use Rattle.ca_on_chip.specs.OnChip.{IsPairsFault}
use Rattle.ca_words.specs.Words.{GeneratesTests}
use Rattle.ca_words.specs.Words.{table_word, cells_word, cell_files, cell_word, defect_word, dash}
use Rattle.ca_words.specs.Words.{IsRespond, IsPair, IsDefects, IsMatrix, AsksNoFile, IsOnCell}
use Rattle.ca_words.proofs.WordLemmas.{no_chip}
use Rattle.ca_on_cell.specs.Outputs.{asked_network}
use Rattle.ca_on_cell.specs.Cells.{HasCell}
use Rattle.ca_on_cell.specs.Causes.{IsFirstUnfit, LacksDefect}
use Rattle.ca_flow.specs.Fault.{Outside, IsCause}
use Rattle.ca_flow.specs.Complete.{FitsCell, FitsFile, FitsChip, IsAnswerable}
use Rattle.ca_flow.proofs.CompleteLemmas.{at_words, asking_work, at_chip}
use Rattle.ca_flow_laws.specs.Same.{IsInputFault}
use Rattle.ca_flow_laws.specs.Reported.{IsInputFile}
use Rattle.ca_flow_laws.proofs.CellLemmas.{AreAsked, AtCell, AtCalled, AtReading, AtLibrary, ReportsCell, AtCellFiles}
use Rattle.ca_flow_laws.proofs.StrengthsLemmas.{none_of_cells}
use Rattle.ca_flow_laws.proofs.ChipLemmas.{pairs_input}
use Rattle.ca_flow_laws.proofs.ExactLemmas.{no_write, no_print, of_cause}

some_or_none : {A : Type 0} (reported : Option A) → IsSome reported → IsNone reported → ⊥
some_or_none reported some none = true≢false (sym some ∙ none)

module _ (words : List (List ℕ)) (fault : Fault) where
  fits_vectors : (raw : RawCell) → FitsCell words raw → (first last defect typed : List ℕ) → AreAsked words first last defect
      → IsFirstUnfit raw first last typed → ⊥
  fits_vectors raw fits first last defect typed (inl asked) (inl unfit) = unfit.1 (rw asked.1.0 (fits.respond asked.0))
  fits_vectors raw fits first last defect typed (inl asked) (inr unfit) = unfit.1.1 (rw asked.1.1.0 (fits.respond asked.0))
  fits_vectors raw fits first last defect typed (inr asked) (inl unfit) =
      let pair = fits.pair asked.0 in unfit.1 (rw asked.1.0 pair.first)
  fits_vectors raw fits first last defect typed (inr asked) (inr unfit) =
      let pair = fits.pair asked.0 in unfit.1.1 (rw asked.1.1.0 pair.last)

  fits_defect : (raw : RawCell) → FitsCell words raw → (first last defect : List ℕ) → AreAsked words first last defect
      → LacksDefect raw first last defect → ⊥
  fits_defect raw fits first last defect (inl asked) lacks =
      let none : IsNone (asked_network raw dash) = subst (λ word. IsNone (asked_network raw word)) asked.1.1.1 lacks.1.1 in
      true≢false none
  fits_defect raw fits first last defect (inr asked) lacks =
      let pair = fits.pair asked.0 in
      let none = subst (λ word. IsNone (asked_network raw word)) asked.1.1.1 lacks.1.1 in
      some_or_none (asked_network raw (defect_word words)) pair.defect none

  fits_cell : (raw : RawCell) → FitsCell words raw → AtCell words raw fault → ⊥
  fits_cell raw fits (inl breaks) = fits.kept breaks.rule breaks.breaks.broken.broken
  fits_cell raw fits (inr (inl misfit)) =
      fits_vectors raw fits misfit.first misfit.last misfit.defect misfit.typed misfit.asked misfit.unfit
  fits_cell raw fits (inr (inr lack)) = fits_defect raw fits lack.first lack.last lack.defect lack.asked lack.lacks

  fits_called : (called : Option RawCell) → IsSomeAnd called (FitsCell words) → AtCalled words called fault → ⊥
  fits_called None held reported = held
  fits_called (Some raw) fits reported = fits_cell raw fits reported

  fits_reading : {S : Type 0} (read : Result S SpiceFault) (called : S → Option RawCell)
      → IsSomeAnd (elim read as (λ _. Option RawCell) [ Ok cells ↦ called cells | Err broken ↦ None ]) (FitsCell words)
      → AtReading words read called fault → ⊥
  fits_reading (Ok cells) called fits reported = fits_called (called cells) fits reported
  fits_reading (Err broken) called fits reported = fits

  fits_bytes : (table : StrengthTable) (bytes : List ℕ) → AtLibrary words table bytes fault
      → HasCell (cell_word words) (FitsCell words) table bytes → ⊥
  fits_bytes table bytes reported fits =
      fits_reading (library_of table bytes) (λ cells. called_among cells (upper_case (cell_word words))) fits reported

  fits_files : (given : Files) → FitsFile words given → AtCellFiles words given fault → ⊥
  fits_files given fits reported =
      none_of_cells (cell_files words) given (ReportsCell words) (HasCell (cell_word words) (FitsCell words)) fault fits_bytes reported fits

-- words that ask for no file have no cause of a fault of input
asking_cause : (words : List (List ℕ)) (before after : Outside) (fault : Fault) → AsksNoFile words → IsInputFault fault
    → IsCause words before after fault → ⊥
asking_cause words before after fault asks is (inl cause) = at_words words (inr (inr asks)) fault cause
asking_cause words before after fault asks is (inr (inl cause)) =
    elim (asking_work words before.files before.store_faults after.store_faults fault asks cause) [
      | inl memory ↦ subst IsInputFault memory is
      | inr many ↦ pairs_input fault is many.1
    ]
asking_cause words before after fault asks is (inr (inr (inl cause))) =
    no_write words before.store_faults after.store_faults fault is cause
asking_cause words before after fault asks is (inr (inr (inr cause))) =
    no_print words before.sink_faults after.sink_faults fault is cause

-- files that fit are those of words of a command on one cell
files_command : (words : List (List ℕ)) (reported : Files) → FitsFile words reported → IsOnCell words
files_command words reported fits = by (strengths_in (table_word words) reported) fits
  where
    by_cell : (called : Option RawCell) → IsSomeAnd called (FitsCell words) → IsOnCell words
    by_cell None held = absurd held
    by_cell (Some raw) held = held.is

    by_file : (table : StrengthTable) (file : Option (List ℕ))
        → IsSomeAnd file (λ bytes. (length bytes ≤ MAX_CELLS) × HasCell (cell_word words) (FitsCell words) table bytes) → IsOnCell words
    by_file table None held = absurd held
    by_file table (Some bytes) held = by_cell (cell_called table bytes (cell_word words)) held.1

    by : (under : Option StrengthTable)
        → IsSomeAnd under (λ table. IsFileWith reported (cells_word words) MAX_CELLS (HasCell (cell_word words) (FitsCell words) table))
        → IsOnCell words
    by None held = absurd held
    by (Some table) held = by_file table (reported (cells_word words)) held

-- a fault of the store or memory is none of input
outside_input : (fault : Fault) (before after : ℕ) → IsInputFault fault → IsOutsideFault fault before after → ⊥
outside_input fault before after is (inl memory) = subst IsInputFault memory is
outside_input fault before after is (inr (name, (store, rose))) = subst IsInputFault store is

left_input : (words : List (List ℕ)) (fault : Fault) (before after : ℕ) → IsInputFault fault
    → IsOutsideFault fault before after ⊎ (GeneratesTests words × IsPairsFault fault) → ⊥
left_input words fault before after is (inl outside) = outside_input fault before after is outside
left_input words fault before after is (inr many) = pairs_input fault is many.1

-- words that fit the chip of their files have no cause of a fault of input
chip_cause : (words : List (List ℕ)) (before after : Outside) (fault : Fault) (reported : Files) → before.files ≡ Some reported
    → FitsChip words reported → IsInputFault fault → IsCause words before after fault → ⊥
chip_cause words before after fault reported are fits is (inl cause) = at_words words (inr (inl fits.is)) fault cause
chip_cause words before after fault reported are fits is (inr (inl cause)) =
    left_input words fault before.store_faults after.store_faults is
    (at_chip words before.files reported are fits before.store_faults after.store_faults fault cause)
chip_cause words before after fault reported are fits is (inr (inr (inl cause))) =
    no_write words before.store_faults after.store_faults fault is cause
chip_cause words before after fault reported are fits is (inr (inr (inr cause))) =
    no_print words before.sink_faults after.sink_faults fault is cause

-- where a command can be answered no fault of input has a cause
pub no_cause : (words : List (List ℕ)) (before after : Outside) (fault : Fault) → IsAnswerable words before.files
    → IsInputFault fault → IsCause words before after fault → ⊥
no_cause words before after fault (inl asks) is cause = asking_cause words before after fault asks is cause
no_cause words before after fault (inr answerable) is cause = by before.files answerable refl
  where
    by : (files : Option Files) → IsSomeAnd files (λ reported. FitsFile words reported ⊎ FitsChip words reported) → before.files ≡ files → ⊥
    by None held same = held
    by (Some reported) (inl fits) same =
        let reports : IsSomeAnd before.files (λ it. (name : List ℕ) → IsInputFile words name → it name ≡ reported name) = rw same (λ name is. refl) in
        let on = files_command words reported fits in
        elim (of_cause words reported before after fault reports is cause) [
          | inl bad ↦ bad.0 (inl on)
          | inr (inl cell) ↦ fits_files words fault reported fits cell.1
          | inr (inr chip) ↦ no_chip words on chip.0
        ]
    by (Some reported) (inr chip) same = chip_cause words before after fault reported same chip is cause

-- words of two commands
pub respond_or_defects : (words : List (List ℕ)) → IsRespond words → IsDefects words → ⊥
respond_or_defects words one other = let four = one.four in let three = other.three in omega (arith, four, three)

pub pair_or_defects : (words : List (List ℕ)) → IsPair words → IsDefects words → ⊥
pair_or_defects words one other = let six = one.six in let three = other.three in omega (arith, six, three)

pub pair_or_matrix : (words : List (List ℕ)) → IsPair words → IsMatrix words → ⊥
pair_or_matrix words one other = let six = one.six in let four = other.four in omega (arith, six, four)

pub respond_or_matrix : (words : List (List ℕ)) → IsRespond words → IsMatrix words → ⊥
respond_or_matrix words one other = omega (arith, ap length (sym one.command ∙ other.command))
