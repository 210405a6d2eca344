-- A command that can be answered is refused only when out of memory, where no call failed.
use Rattle.std.proofs.Common.{ℕ, ◌≡◌, ◌≤◌, ◌<◌, ◌⊎◌, ◌∙◌, inl, inr, refl, sym, ap, subst, List, length}
use Rattle.std.proofs.Common.{Option, Some, None, Err, arith, true≢false}
use Rattle.std.proofs.lemmas.Option.{same_Some}
use Rattle.std.specs.Prelude.{IfSome, IsSome, IsNone, IsSomeAnd}
use Rattle.ca_store.specs.Store.{Files, Rose, MayHave}
use Rattle.ca_cell.specs.declared.raw.RawCell.{RawCell}
use Rattle.ca_cell.specs.declared.strength.StrengthTable.{StrengthTable}
use Rattle.ca_cell.specs.declared.rule.CellRule.{CellRule}
use Rattle.ca_cell.specs.Rules.{IsFirstBroken}
use Rattle.ca_spice.specs.declared.fault.SpiceFault.{SpiceFault}
use Rattle.ca_spice.specs.declared.fault.SpiceFault.TheVariants as spice
use Rattle.ca_spice.specs.Reading.{library_of}
use Rattle.ca_spice.specs.Called.{cell_called}
use Rattle.ca_load.specs.declared.cells.TheConstants.{MAX_CELLS}
use Rattle.ca_load.specs.Files as reading
use Rattle.ca_load.specs.Files.{IsReadCause}
use Rattle.ca_load.specs.Texts.{strengths_in, OfCells}
use Rattle.ca_load.specs.Causes.{IsTextCause, IsCellsCause, IsStrengthsCause}
use Rattle.ca_load.proofs.SameLemmas.{one_reading}
use Rattle.ca_load.proofs.WholeLemmas.{IsOutsideFault, at_read as is_read, at_strengths, at_load}
use Rattle.ca_linked.specs.Linked.{LinkedChip}
use Rattle.ca_request.specs.Asked.{FitsInputs, IsDefectCause, IsInstanceCause, IsVectorsCause}
use Rattle.ca_fault.specs.declared.fault.LimitKind.TheVariants as limit
use Rattle.ca_fault.specs.declared.fault.Fault.{Fault}
use Rattle.ca_fault.specs.declared.fault.Fault.TheVariants.{BadWords, Cells, NoCell, Cell, BadVector}
use Rattle.ca_fault.specs.declared.fault.Fault.TheVariants.{NoInstance, NoDefect, TooLong, Limit, StoreFailed}
use Rattle.ca_fault.specs.declared.fault.Fault.TheVariants.{SinkFailed, NoMemory}
use Rattle.ca_fault.specs.declared.fault.Fault.TheVariants.{Order}
use Rattle.ca_flow.specs.declared.finished.Finished.{Finished}
use Rattle.ca_flow.specs.Finished.{IsAnswer, status_reported}
use Rattle.ca_words.specs.Words.{table_word, cells_word, cell_files, cell_word, vector_word, first_word, last_word, defect_word, dash}
use Rattle.ca_words.specs.Words.{chip_files, instance_word, chip_defect_word, chip_first_word, chip_last_word}
use Rattle.ca_words.specs.Words.{stil_word, log_word, cert_word, order_word, IsReplay, IsDiagnose, IsVerify, AsksNoFile, GeneratesTests, IsCommand}
use Rattle.ca_scan.specs.ChainFault.{AreAllChains}
use Rattle.ca_patterns.specs.declared.patterns.TheConstants.{MAX_STIL}
use Rattle.ca_patterns.specs.Patterns.{IsStilCause, OfTraced, GiveTraced, IsPatternsCause, FitsPatterns}
use Rattle.ca_patterns.proofs.OneLemmas.{no_file_cause, is_read as is_patterns_read}
use Rattle.ca_load.specs.Chips.{IsChipOf}
use Rattle.ca_diagnosing.specs.declared.logs.TheConstants.{MAX_LOG}
use Rattle.ca_diagnosing.specs.Diagnosing.{IsBadLog, HasRight, IsLogCause, FitsDiagnosis}
use Rattle.ca_diagnosing.proofs.OneLemmas.{fits_patterns, is_log_read, no_bad_log}
use Rattle.ca_verifying.specs.declared.certificates.TheConstants.{MAX_CERT}
use Rattle.ca_verifying.specs.Verifying.{IsBadCert, IsCertCause, FitsVerification}
use Rattle.ca_verifying.proofs.OneLemmas as verify
use Rattle.ca_verifying.proofs.OneLemmas.{is_cert_read, no_bad_cert}
use Rattle.ca_on_cell.specs.Outputs.{Fits, asked_network}
use Rattle.ca_on_cell.specs.Cells.{HasCell, LacksCell}
use Rattle.ca_on_chip.specs.OnChip.{GiveChipWith, OfChip, IsSimulationCause, IsPairsFault}
use Rattle.ca_on_chip.specs.declared.replays.TheConstants.{MAX_ORDER}
use Rattle.ca_on_chip.specs.Replay.{HasFaultyLine, HasRun, IsOrderCause}
use Rattle.ca_generating.specs.Making.{IsMakeStage}
use Rattle.ca_simulate.proofs.RunLemmas.{read_or_faulty}
use Rattle.ca_flow.specs.Complete.{FitsCell, FitsFile, FitsDefect, FitsSimulate, HasEvents, FitsReplay}
use Rattle.ca_flow.specs.Complete.{FitsBridges, FitsChip}
use Rattle.ca_flow.specs.Complete.{IsAnswerable, HasTooManyPairs, Completes}
use Rattle.ca_words.proofs.WordLemmas.{no_chip, no_asking_cell, no_asking_chip}
use Rattle.ca_flow.specs.Fault.{Outside, IsWordsCause, IsWriteCause, IsPrintCause, IsOwnCause, IsWorkCause}
use Rattle.ca_flow.specs.Fault.{IsCause}
use Rattle.ca_on_cell.specs.Causes.{BreaksAt, IsNameCause, IsFirstUnfit, IsPairCause, IsVectorCause}
use Rattle.ca_on_cell.specs.Causes.{IsCellCause}
use Rattle.ca_on_cell.specs.Causes.{IsValueCause}

-- the table, the file and the cell that the words name
record HasSeen (words : List (List ℕ)) (files : Option Files) : Type 0 where
  pub reported : Files
  pub reported_are : files ≡ Some reported
  pub table : StrengthTable
  pub under : strengths_in (table_word words) reported ≡ Some table
  pub bytes : List ℕ
  pub there : reported (cells_word words) ≡ Some bytes
  pub within : length bytes ≤ MAX_CELLS
  pub raw : RawCell
  pub called : cell_called table bytes (cell_word words) ≡ Some raw
  pub fits : FitsCell words raw

seen_of : (words : List (List ℕ)) (reported : Files) → FitsFile words reported → HasSeen words (Some reported)
seen_of words reported held = at_table (strengths_in (table_word words) reported) refl held
  where
    at_cell : (table : StrengthTable) → strengths_in (table_word words) reported ≡ Some table → (bytes : List ℕ) → reported (cells_word words) ≡ Some bytes → length bytes ≤ MAX_CELLS → (cell : Option RawCell)
        → cell_called table bytes (cell_word words) ≡ cell → IsSomeAnd cell (FitsCell words) → HasSeen words (Some reported)
    at_cell table under bytes there within None called fits = absurd fits
    at_cell table under bytes there within (Some raw) called fits = record {
      reported = reported;
      reported_are = refl;
      table = table;
      under = under;
      bytes = bytes;
      there = there;
      within = within;
      raw = raw;
      called = called;
      fits = fits;
    }

    at_file : (table : StrengthTable) → strengths_in (table_word words) reported ≡ Some table → (file : Option (List ℕ))
        → reported (cells_word words) ≡ file
        → IsSomeAnd file (λ bytes. (length bytes ≤ MAX_CELLS) × HasCell (cell_word words) (FitsCell words) table bytes)
        → HasSeen words (Some reported)
    at_file table under None there held = absurd held
    at_file table under (Some bytes) there (within, has) =
        at_cell table under bytes there within (cell_called table bytes (cell_word words)) refl has

    at_table : (table : Option StrengthTable) → strengths_in (table_word words) reported ≡ table
        → IsSomeAnd table (λ table. reading.IsFileWith reported (cells_word words) MAX_CELLS (HasCell (cell_word words) (FitsCell words) table))
        → HasSeen words (Some reported)
    at_table None under held = absurd held
    at_table (Some table) under held = at_file table under (reported (cells_word words)) refl held

module _ (words : List (List ℕ)) (files : Option Files) (seen : HasSeen words files) where
  -- what is said of the file holds of the table and of its bytes
  at_bytes : (P : StrengthTable → List ℕ → Type 0) → OfCells files (cell_files words) P → P seen.table seen.bytes
  at_bytes P held =
      let under : IsSomeAnd (Some seen.table) (λ table. reading.IsFileWith seen.reported (cells_word words) MAX_CELLS (P table)) =
      rw seen.under at (held seen.reported seen.reported_are) in
      let here : IsSomeAnd (Some seen.bytes) (λ bytes. (length bytes ≤ MAX_CELLS) × P seen.table bytes) = rw seen.there at under in
      here.1

  -- what is said of the cell holds of its subcircuit
  at_raw : (P : RawCell → Type 0) → OfCells files (cell_files words) (HasCell (cell_word words) P) → P seen.raw
  at_raw P held =
      let here : IsSomeAnd (Some seen.raw) P = rw seen.called at (at_bytes (HasCell (cell_word words) P) held) in
      here

  is_there : MayHave files (cells_word words)
  is_there = λ reported are. rw (sym (same_Some seen.reported reported (sym seen.reported_are ∙ are)), seen.there) refl

  module _ (before after : ℕ) (quiet : ¬ (Rose before after)) where
    at_read : (fault : Fault) → IsReadCause (cells_word words) files MAX_CELLS before after fault → fault ≡ NoMemory
    at_read (TooLong typed taken) (same, long) =
        let past : IsSomeAnd (Some seen.bytes) (λ bytes. MAX_CELLS < length bytes) = rw seen.there at (long.past seen.reported seen.reported_are) in
        absurd (omega (arith, past, seen.within))
    at_read (StoreFailed typed) (same, rose) = absurd (quiet (rose is_there))
    at_read NoMemory cause = refl
    at_read fault cause = absurd cause

    at_table : (fault : Fault) → IsStrengthsCause (table_word words) files before after fault → fault ≡ NoMemory
    at_table fault cause =
        by (at_strengths files seen.reported seen.reported_are before after (table_word words) seen.table seen.under fault cause)
      where
        by : IsOutsideFault fault before after → fault ≡ NoMemory
        by (inl memory) = memory
        by (inr (name, (is, rose))) = absurd (quiet rose)

  -- a text that names the cell has a reading
  has_reading : (fault : SpiceFault) → library_of seen.table seen.bytes ≡ Err fault → ⊥
  has_reading fault reads =
      let missing : None ≡ Some seen.raw = rw (cell_called, reads) at seen.called in
      cc

  at_text : (fault : Fault) → IsCellsCause (cell_files words) files fault → ⊥
  at_text (Cells line kind) cause = has_reading (spice.At line kind) (at_bytes (IsTextCause (Cells line kind)) cause)
  at_text (Limit limit.Cells count) cause = has_reading (spice.TooManyCells count) (at_bytes (IsTextCause (Limit limit.Cells count)) cause)
  at_text fault cause = cause

  at_name : (fault : Fault) → IsNameCause (cell_files words) (cell_word words) files fault → ⊥
  at_name (NoCell typed) (same, lacks) =
      let missing : IsNone (Some seen.raw) = rw seen.called at (at_bytes (LacksCell (cell_word words)) lacks).1 in
      cc
  at_name (Cell cell rule place) (same, breaks) = at_rule rule (at_raw (BreaksAt rule place) breaks).broken
    where
      at_rule : (rule : CellRule) → IsFirstBroken seen.raw rule → ⊥
      at_rule rule first = seen.fits.kept rule first.broken
  at_name fault cause = cause

  at_vector : (first last defect : List ℕ) → Fits seen.raw first → Fits seen.raw last → IsSome (asked_network seen.raw defect) → (fault : Fault)
      → IsVectorCause (cell_files words) (cell_word words) first last defect files fault → ⊥
  at_vector first last defect first_fits last_fits asks (BadVector typed) cause =
      at_unfit (at_raw (IsPairCause first last defect (BadVector typed)) cause.1).1
    where
      at_unfit : IsFirstUnfit seen.raw first last typed → ⊥
      at_unfit (inl (same, unfit)) = unfit first_fits
      at_unfit (inr (same, (fits, unfit))) = unfit last_fits
  at_vector first last defect first_fits last_fits asks (NoDefect typed) cause =
      let lacks = (at_raw (IsPairCause first last defect (NoDefect typed)) cause.1.1).1.1 in
      true≢false (sym asks ∙ lacks.1.1)
  at_vector first last defect first_fits last_fits asks fault cause = cause

  module _ (before after : Outside) (quiet_store : ¬ (Rose before.store_faults after.store_faults))
      (quiet_sink : ¬ (Rose before.sink_faults after.sink_faults)) (fault : Fault) where
    at_cell : IsCellCause (cell_files words) (cell_word words) files before.store_faults after.store_faults fault → fault ≡ NoMemory
    at_cell (inl (inl memory)) = memory
    at_cell (inl (inr (inl table))) = at_table before.store_faults after.store_faults quiet_store fault table
    at_cell (inl (inr (inr (inl (has, read))))) = at_read before.store_faults after.store_faults quiet_store fault read
    at_cell (inl (inr (inr (inr text)))) = absurd (at_text fault text)
    at_cell (inr name) = absurd (at_name fault name)

    at_value : (first last defect : List ℕ) → Fits seen.raw first → Fits seen.raw last → IsSome (asked_network seen.raw defect)
        → IsValueCause (cell_files words) (cell_word words) first last defect files before.store_faults after.store_faults fault → fault ≡ NoMemory
    at_value first last defect first_fits last_fits asks (inl cell) = at_cell cell
    at_value first last defect first_fits last_fits asks (inr own) = absurd (at_vector first last defect first_fits last_fits asks fault own)

    at_work : IsWorkCause words files before.store_faults after.store_faults fault → fault ≡ NoMemory
    at_work (inl (is, cause)) =
        let fits = seen.fits.respond is in
        at_value (vector_word words) (vector_word words) dash fits fits refl cause
    at_work (inr (inl (is, cause))) =
        let fits = seen.fits.pair is in
        at_value (first_word words) (last_word words) (defect_word words) fits.first fits.last fits.defect cause
    at_work (inr (inr (inl (is, cause)))) = at_cell cause
    at_work (inr (inr (inr (inl (is, cause))))) = at_cell cause
    at_work (inr (inr (inr (inr (inl (is, cause)))))) = absurd (no_chip words seen.fits.is is)
    at_work (inr (inr (inr (inr (inr (make, cause)))))) = absurd (no_asking_cell words (inr (inr make)) seen.fits.is)

pub at_words : (words : List (List ℕ)) → IsCommand words → (fault : Fault) → IsWordsCause words fault → ⊥
at_words words is BadWords cause = cause is
at_words words is fault cause = cause

at_print : (before after : ℕ) → ¬ (Rose before after) → (fault : Fault) → IsPrintCause before after fault → fault ≡ NoMemory
at_print before after quiet SinkFailed rose = absurd (quiet rose)
at_print before after quiet NoMemory cause = refl
at_print before after quiet fault cause = absurd cause

at_write : (words : List (List ℕ)) (before after : ℕ) → ¬ (Rose before after) → (fault : Fault)
    → IsWriteCause words before after fault → ⊥
at_write words before after quiet (StoreFailed typed) (is, rose) = quiet rose
at_write words before after quiet fault cause = cause

-- there was no memory, or a command that generates tests found too many pairs
IsLeft : List (List ℕ) → Fault → Type 0
IsLeft words fault = (fault ≡ NoMemory) ⊎ (GeneratesTests words × IsPairsFault fault)

-- where its work was refused only when out of memory, a command was
only_memory : (words : List (List ℕ)) (before after : Outside) → IsCommand words
    → ¬ (Rose before.store_faults after.store_faults) → ¬ (Rose before.sink_faults after.sink_faults) → (fault : Fault)
    → (IsWorkCause words before.files before.store_faults after.store_faults fault → IsLeft words fault)
    → IsCause words before after fault → IsLeft words fault
unfolding IsLeft
only_memory words before after is quiet_store quiet_sink fault no_work (inl words_cause) =
    absurd (at_words words is fault words_cause)
only_memory words before after is quiet_store quiet_sink fault no_work (inr (inl work)) = no_work work
only_memory words before after is quiet_store quiet_sink fault no_work (inr (inr (inl write))) =
    absurd (at_write words before.store_faults after.store_faults quiet_store fault write)
only_memory words before after is quiet_store quiet_sink fault no_work (inr (inr (inr print))) =
    inl (at_print before.sink_faults after.sink_faults quiet_sink fault print)

-- words that ask for no file have no work that is refused but when out of memory, or for too many pairs
pub asking_work : (words : List (List ℕ)) (files : Option Files) (before after : ℕ) (fault : Fault) → AsksNoFile words
    → IsWorkCause words files before after fault → (fault ≡ NoMemory) ⊎ (GeneratesTests words × IsPairsFault fault)
asking_work words files before after fault asks (inl (is, cause)) = absurd (no_asking_cell words asks (inl is))
asking_work words files before after fault asks (inr (inl (is, cause))) = absurd (no_asking_cell words asks (inr (inl is)))
asking_work words files before after fault asks (inr (inr (inl (is, cause)))) =
    absurd (no_asking_cell words asks (inr (inr (inl is))))
asking_work words files before after fault asks (inr (inr (inr (inl (is, cause))))) =
    absurd (no_asking_cell words asks (inr (inr (inr is))))
asking_work words files before after fault asks (inr (inr (inr (inr (inl (is, cause)))))) = absurd (no_asking_chip words asks is)
asking_work words files before after fault asks (inr (inr (inr (inr (inr (make, cause)))))) = by cause.stage
  where
    by : IsMakeStage cause.number fault → (fault ≡ NoMemory) ⊎ (GeneratesTests words × IsPairsFault fault)
    by (inl memory) = inl memory
    by (inr many) = inr (inr (inr make), many.pairs)

module _ (words : List (List ℕ)) (files : Option Files) (reported : Files) (are : files ≡ Some reported) (fits : FitsChip words reported) where
  -- what is said of the chip of the files holds of one of the chips that the inputs give
  at_inputs : (P : LinkedChip → Type 0) → OfChip files (chip_files words) P → GiveChipWith P fits.inputs
  at_inputs P held =
      let found = held reported are in
      subst (GiveChipWith P) (one_reading (chip_files words) reported found.0 fits.inputs found.1.0 fits.read) found.1.1

  no_defect : (chip : LinkedChip) (fault : Fault) → FitsDefect words chip
      → IsDefectCause chip (instance_word words) (chip_defect_word words) fault → ⊥
  no_defect chip (NoInstance typed) (inl none) (same, (some, lacks)) = some none
  no_defect chip (NoInstance typed) (inr has) (same, (some, lacks)) = lacks has.u has.named
  no_defect chip (NoDefect typed) (inl none) (same, (some, lacks)) = some none
  no_defect chip (NoDefect typed) (inr has) (same, (some, lacks)) =
      true≢false (sym (has.called lacks.u lacks.named) ∙ lacks.lacks)
  no_defect chip fault own cause = cause

  no_instance : (chip : LinkedChip) (fault : Fault) → FitsBridges words chip
      → IsInstanceCause chip (instance_word words) fault → ⊥
  no_instance chip (NoInstance typed) own (same, lacks) = lacks own.0 own.1
  no_instance chip fault own cause = cause

  no_vectors : (chip : LinkedChip) (first last : List ℕ) (fault : Fault) → FitsInputs chip first → FitsInputs chip last
      → IsVectorsCause chip first last fault → ⊥
  no_vectors chip first last (BadVector typed) first_fits last_fits (inl (same, unfit)) = unfit first_fits
  no_vectors chip first last (BadVector typed) first_fits last_fits (inr (same, (fit, unfit))) = unfit last_fits
  no_vectors chip first last fault first_fits last_fits cause = cause

  no_simulation : (chip : LinkedChip) (fault : Fault) → FitsSimulate words chip
      → IsSimulationCause (instance_word words) (chip_defect_word words) (chip_first_word words) (chip_last_word words)
      fault chip → ⊥
  no_simulation chip fault own (inl cause) =
      no_vectors chip (chip_first_word words) (chip_last_word words) fault own.first own.last cause
  no_simulation chip fault own (inr (first, (last, cause))) = no_defect chip fault own.defect cause

  -- the file of `replay` names events
  no_line : (chip : LinkedChip) (line : ℕ) → FitsReplay words reported chip
      → reading.OfFile files (order_word words) MAX_ORDER (HasFaultyLine (instance_word words) (chip_defect_word words) (chip_first_word words)
      (chip_last_word words) line chip) → ⊥
  no_line chip line own held = by (reported (order_word words)) own.events (held reported are)
    where
      by : (there : Option (List ℕ)) → IsSomeAnd there (λ bytes. (length bytes ≤ MAX_ORDER) × HasEvents words chip bytes)
          → IsSomeAnd there (λ bytes. (length bytes ≤ MAX_ORDER)
          × HasFaultyLine (instance_word words) (chip_defect_word words) (chip_first_word words) (chip_last_word words) line chip bytes) → ⊥
      by None fits held = held
      by (Some bytes) (within, fits) (also, faulty) =
          let named = fits faulty.run faulty.asked in read_or_faulty faulty.run bytes named.0 line named.1 faulty.faulty

  -- it is read
  no_read : (chip : LinkedChip) (before after : ℕ) (fault : Fault) → FitsReplay words reported chip
      → IsReadCause (order_word words) files MAX_ORDER before after fault → IsOutsideFault fault before after
  no_read chip before after fault own cause = by (reported (order_word words)) refl own.events
    where
      by : (there : Option (List ℕ)) → reported (order_word words) ≡ there
          → IsSomeAnd there (λ bytes. (length bytes ≤ MAX_ORDER) × HasEvents words chip bytes) → IsOutsideFault fault before after
      by None is fits = absurd fits
      by (Some bytes) is (within, fits) = is_read files reported are before after (order_word words) bytes MAX_ORDER is within fault cause

  no_order : IsReplay words → (before after : ℕ) (fault : Fault)
      → IsOrderCause (chip_files words) (instance_word words) (chip_defect_word words) (chip_first_word words) (chip_last_word words)
      (order_word words) files before after fault → IsOutsideFault fault before after
  no_order is before after (Order line) held = absurd (
      let found = at_inputs (λ chip. reading.OfFile files (order_word words) MAX_ORDER (HasFaultyLine (instance_word words) (chip_defect_word words)
      (chip_first_word words) (chip_last_word words) line chip)) held in
      let own = fits.own found.chip found.is in
      no_line found.chip line (own.replay is) found.holds)
  no_order is before after fault (held, read) =
      let found = at_inputs (HasRun (instance_word words) (chip_defect_word words) (chip_first_word words) (chip_last_word words)) held in
      let own = fits.own found.chip found.is in
      no_read found.chip before after fault (own.replay is) read

  -- so for chips with their chains
  at_traced : (P : LinkedChip → List (List ℕ) → Type 0) → OfTraced files (chip_files words) P → GiveTraced P fits.inputs
  at_traced P held =
      let found = held reported are in
      subst (GiveTraced P) (one_reading (chip_files words) reported found.0 fits.inputs found.1.0 fits.read) found.1.1

  -- the file of patterns is read, and has right ones
  no_patterns : ((chip : LinkedChip) → IsChipOf fits.inputs chip → (chains : List (List ℕ)) → AreAllChains chip chains
      → FitsPatterns reported (stil_word words) chip chains) → (before after : ℕ) (fault : Fault)
      → IsPatternsCause (chip_files words) (stil_word words) files before after fault → IsOutsideFault fault before after
  no_patterns right before after fault (inl (held, read)) =
      let found = at_traced _ held in
      is_patterns_read files reported are (stil_word words) found.chip found.chains found.all
      (right found.chip found.is found.chains found.all) before after fault read
  no_patterns right before after fault (inr (word, held)) = absurd (
      let found = at_traced (λ chip chains. reading.OfFile files (stil_word words) MAX_STIL (IsStilCause chip chains fault)) held in
      no_file_cause files reported are (stil_word words) found.chip found.chains found.all
      (right found.chip found.is found.chains found.all) fault found.holds)

  -- what the files of `diagnose` have
  diagnosis : IsDiagnose words → (chip : LinkedChip) → IsChipOf fits.inputs chip → (chains : List (List ℕ)) → AreAllChains chip chains
      → FitsDiagnosis reported (stil_word words) (log_word words) chip chains
  diagnosis is chip of chains all = let own = fits.own chip of in own.diagnose is chains all

  -- its log is read, and is one
  no_log : IsDiagnose words → (before after : ℕ) (fault : Fault)
      → IsLogCause (chip_files words) (stil_word words) (log_word words) files before after fault → IsOutsideFault fault before after
  no_log is before after fault (inl (held, read)) =
      let found = at_traced (λ chip chains. reading.OfFile files (stil_word words) MAX_STIL (HasRight chip chains (λ file. Unit {0}))) held in
      is_log_read files reported are (stil_word words) (log_word words) found.chip found.chains found.all
      (diagnosis is found.chip found.is found.chains found.all) before after fault read
  no_log is before after fault (inr (word, held)) = absurd (
      let found = at_traced (λ chip chains. reading.OfFile files (stil_word words) MAX_STIL
      (HasRight chip chains (λ file. reading.OfFile files (log_word words) MAX_LOG (IsBadLog chip file.expected fault)))) held in
      no_bad_log files reported are (stil_word words) (log_word words) found.chip found.chains found.all
      (diagnosis is found.chip found.is found.chains found.all) fault found.holds)

  -- what the files of `verify` have
  verification : IsVerify words → (chip : LinkedChip) → IsChipOf fits.inputs chip → (chains : List (List ℕ)) → AreAllChains chip chains
      → FitsVerification reported (stil_word words) (cert_word words) chip chains
  verification is chip of chains all = let own = fits.own chip of in own.verify is chains all

  -- its certificate is read, and is one of the chip
  no_cert : IsVerify words → (before after : ℕ) (fault : Fault)
      → IsCertCause (chip_files words) (stil_word words) (cert_word words) files before after fault → IsOutsideFault fault before after
  no_cert is before after fault (inl (held, read)) =
      let found = at_traced (λ chip chains. reading.OfFile files (stil_word words) MAX_STIL (HasRight chip chains (λ file. Unit {0}))) held in
      is_cert_read files reported are (stil_word words) (cert_word words) found.chip found.chains found.all
      (verification is found.chip found.is found.chains found.all) before after fault read
  no_cert is before after fault (inr (word, held)) = absurd (
      let found = at_traced (λ chip chains. reading.OfFile files (stil_word words) MAX_STIL
      (HasRight chip chains (λ file. reading.OfFile files (cert_word words) MAX_CERT (IsBadCert chip fault)))) held in
      no_bad_cert files reported are (stil_word words) (cert_word words) found.chip found.chains found.all
      (verification is found.chip found.is found.chains found.all) fault found.holds)

  -- a command's own words are of the chip
  no_own : (before after : ℕ) (fault : Fault) → IsOwnCause words files before after fault
      → IsOutsideFault fault before after ⊎ (GeneratesTests words × IsPairsFault fault)
  no_own before after fault (inl (is, (word, held))) = absurd (
      let found =
      at_inputs (λ chip. IsDefectCause chip (instance_word words) (chip_defect_word words) fault) held in
      let own = fits.own found.chip found.is in
      no_defect found.chip fault (own.flatten is) found.holds)
  no_own before after fault (inr (inl (is, (word, held)))) = absurd (
      let found =
      at_inputs (IsSimulationCause (instance_word words) (chip_defect_word words) (chip_first_word words) (chip_last_word words) fault) held in
      let own = fits.own found.chip found.is in
      no_simulation found.chip fault (own.simulate is) found.holds)
  no_own before after fault (inr (inr (inl (is, cause)))) = inr (inl is, cause.many.0)
  no_own before after fault (inr (inr (inr (inr (inl (is, cause)))))) =
      inl (no_patterns (λ chip of. let own = fits.own chip of in own.grade is) before after fault cause)
  no_own before after fault (inr (inr (inr (inr (inr (inr (inl (is, cause)))))))) = inr (inr (inl is), cause.many.0)
  no_own before after fault (inr (inr (inr (inr (inr (inr (inr (inl (is, inl cause))))))))) =
      inl (no_patterns (λ chip of chains all. verify.fits_patterns files reported are (stil_word words) (cert_word words) chip chains all
      (verification is chip of chains all)) before after fault cause)
  no_own before after fault (inr (inr (inr (inr (inr (inr (inr (inl (is, inr cause))))))))) = inl (no_cert is before after fault cause)
  no_own before after fault (inr (inr (inr (inr (inr (inr (inr (inr (is, (word, held)))))))))) = absurd (
      let found = at_inputs (λ chip. IsInstanceCause chip (instance_word words) fault) held in
      let own = fits.own found.chip found.is in
      no_instance found.chip fault (own.bridges is) found.holds)
  no_own before after fault (inr (inr (inr (inr (inr (inl (is, inl cause))))))) =
      inl (no_patterns (λ chip of chains all. fits_patterns files reported are (stil_word words) (log_word words) chip chains all
      (diagnosis is chip of chains all)) before after fault cause)
  no_own before after fault (inr (inr (inr (inr (inr (inl (is, inr cause))))))) = inl (no_log is before after fault cause)
  no_own before after fault (inr (inr (inr (inl (is, inl (word, held)))))) = absurd (
      let found =
      at_inputs (IsSimulationCause (instance_word words) (chip_defect_word words) (chip_first_word words) (chip_last_word words) fault) held in
      let own = fits.own found.chip found.is in
      let replay = own.replay is in
      no_simulation found.chip fault replay.pair found.holds)
  no_own before after fault (inr (inr (inr (inl (is, inr order))))) = inl (no_order is before after fault order)

  -- work on a chip that the files give, and that the words fit, is refused where the store failed, for want
  -- of memory, or where `atpg` found too many pairs
  pub at_chip : (before after : ℕ) (fault : Fault) → IsWorkCause words files before after fault
      → IsOutsideFault fault before after ⊎ (GeneratesTests words × IsPairsFault fault)
  at_chip before after fault (inl (is, cause)) = absurd (no_chip words (inl is) fits.is)
  at_chip before after fault (inr (inl (is, cause))) = absurd (no_chip words (inr (inl is)) fits.is)
  at_chip before after fault (inr (inr (inl (is, cause)))) = absurd (no_chip words (inr (inr (inl is))) fits.is)
  at_chip before after fault (inr (inr (inr (inl (is, cause))))) =
      absurd (no_chip words (inr (inr (inr is))) fits.is)
  at_chip before after fault (inr (inr (inr (inr (inr (make, cause)))))) = absurd (no_asking_chip words (inr (inr make)) fits.is)
  at_chip before after fault (inr (inr (inr (inr (inl (is, inl load)))))) =
      inl (at_load files reported are before after (chip_files words) fits.inputs fits.read fits.gives fault load)
  at_chip before after fault (inr (inr (inr (inr (inl (is, inr own)))))) = no_own before after fault own

only_outside : (words : List (List ℕ)) (fault : Fault) (before after : ℕ) → ¬ (Rose before after)
    → IsOutsideFault fault before after ⊎ (GeneratesTests words × IsPairsFault fault) → IsLeft words fault
unfolding IsLeft
only_outside words fault before after quiet (inl (inl memory)) = inl memory
only_outside words fault before after quiet (inl (inr (name, (is, rose)))) = absurd (quiet rose)
only_outside words fault before after quiet (inr many) = inr many

-- a command that can be answered is refused only when out of memory
answerable_memory : (words : List (List ℕ)) (before after : Outside) → IsAnswerable words before.files
    → ¬ (Rose before.store_faults after.store_faults) → ¬ (Rose before.sink_faults after.sink_faults) → (fault : Fault)
    → IsCause words before after fault → IsLeft words fault
unfolding IsLeft
answerable_memory words before after (inl asks) quiet_store quiet_sink fault cause =
    only_memory words before after (inr (inr asks)) quiet_store quiet_sink fault
    (λ work. asking_work words before.files before.store_faults after.store_faults fault asks work) cause
answerable_memory words before after (inr fits) quiet_store quiet_sink fault cause = by before.files refl fits
  where
    by : (files : Option Files) → before.files ≡ files
        → IsSomeAnd files (λ reported. FitsFile words reported ⊎ FitsChip words reported) → IsLeft words fault
    by None are held = absurd held
    by (Some reported) are (inl file) =
        let seen : HasSeen words before.files = subst (HasSeen words) (sym are) (seen_of words reported file) in
        only_memory words before after (inl seen.fits.is) quiet_store quiet_sink fault
        (λ work. inl (at_work words before.files seen before after quiet_store quiet_sink fault work)) cause
    by (Some reported) are (inr chip) =
        only_memory words before after (inr (inl chip.is)) quiet_store quiet_sink fault
        (λ work. only_outside words fault before.store_faults after.store_faults quiet_store
        (at_chip words before.files reported are chip before.store_faults after.store_faults fault work)) cause

-- a command that was answered or refused for a cause completes
pub completes : (words : List (List ℕ)) (before after : Outside) (end : Finished) → IsAnswer words end
    → IfSome end.fault (IsCause words before after) → Completes words before after end
unfolding IsLeft
completes words before after end answer cause = λ answerable quiet_store quiet_sink.
    by_fault answerable quiet_store quiet_sink end.fault answer.status refl cause
  where
    by_fault : IsAnswerable words before.files → ¬ (Rose before.store_faults after.store_faults)
        → ¬ (Rose before.sink_faults after.sink_faults)
        → (reported : Option Fault) → end.status ≡ status_reported reported → end.fault ≡ reported → IfSome reported (IsCause words before after)
        → (end.status ≡ 0) ⊎ ((end.fault ≡ Some NoMemory) ⊎ HasTooManyPairs words end)
    by_fault answerable quiet_store quiet_sink None status is cause = inl status
    by_fault answerable quiet_store quiet_sink (Some fault) status is cause =
        left (answerable_memory words before after answerable quiet_store quiet_sink fault cause)
      where
        left : IsLeft words fault → (end.status ≡ 0) ⊎ ((end.fault ≡ Some NoMemory) ⊎ HasTooManyPairs words end)
        left (inl memory) = inr (inl (is ∙ ap Some memory))
        left (inr many) = inr (inr (many.0, rw is many.1))
