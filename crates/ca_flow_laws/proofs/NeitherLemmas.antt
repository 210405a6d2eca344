-- Of a command on a chip whose files are there it can't be that it can't be answered and that no fault of input
-- has a cause.
use Rattle.std.proofs.Common.{ℕ, ◌+◌, ◌≡◌, ◌≤◌, ◌<◌, ◌⊎◌, ◌∙◌, inl, inr, refl, sym, ap, subst, arith, List, [], length, map}
use Rattle.std.proofs.Common.{Option, Some, None, Result, Ok, Err, true≢false}
use Rattle.std.specs.Prelude.{IsOk, IsSome, IsSomeAnd, slice_get, ⊤, ◌≢◌}
use Rattle.std.proofs.Math.Decide.{dec_le}
use Rattle.std.proofs.lemmas.List.Elements.{All-from_recursion}
use Rattle.std.proofs.lemmas.Option.{same_Some}
use Rattle.ca_store.specs.Store.{Files}
use Rattle.ca_lex.specs.Words.{upper_case}
use Rattle.ca_cell.specs.declared.strength.StrengthTable.{StrengthTable}
use Rattle.ca_cell.specs.Strength.{default_table}
use Rattle.ca_cell.specs.Library.{Named, IsEntry}
use Rattle.ca_strengths.specs.StrengthText.{strengths_of}
use Rattle.ca_spice.specs.declared.fault.SpiceFault.{SpiceFault}
use Rattle.ca_spice.specs.declared.fault.SpiceFault.TheVariants as spice
use Rattle.ca_spice.specs.Reading.{Reading, library_of}
use Rattle.ca_spice.specs.Views.{subcircuit_seen}
use Rattle.ca_spice.proofs.AnswerLemmas.{reading_has_memory}
use Rattle.ca_verilog.specs.declared.fault.VerilogFault.{VerilogFault}
use Rattle.ca_verilog.specs.declared.fault.VerilogFault.TheVariants as verilog
use Rattle.ca_verilog.specs.declared.raw.RawInstance.{RawInstance}
use Rattle.ca_verilog.specs.declared.raw.RawNetlist.{RawNetlist}
use Rattle.ca_verilog.specs.Text.{netlist_of}
use Rattle.ca_linked.specs.declared.instances.InstanceId.{InstanceId}
use Rattle.ca_linked.specs.Linked.{LinkedChip}
use Rattle.ca_wiring.specs.declared.scan_row.ScanRow.{ScanRow}
use Rattle.ca_wiring.specs.declared.fault.ChipFault.{ChipFault}
use Rattle.ca_wiring.specs.declared.fault.ChipFault.TheVariants as rule
use Rattle.ca_wiring.specs.Wiring.{wiring_of}
use Rattle.ca_wiring.specs.Nets.{FeedsWire}
use Rattle.ca_wiring.specs.Rules.{KeepsRules}
use Rattle.ca_scan.specs.Table.{table_of}
use Rattle.ca_fault_place.specs.Names.{wire_text}
use Rattle.ca_fault_place.specs.Place.{cell_text, pin_text, refused_text, double_text, net_text, loop_text}
use Rattle.ca_fault.specs.declared.fault.LimitKind.TheVariants as limit
use Rattle.ca_fault.specs.declared.fault.Fault.{Fault}
use Rattle.ca_fault.specs.declared.fault.Fault.TheVariants.{Cells, Netlist, Scan, Chain, Cell, BadVector, NoInstance}
use Rattle.ca_fault.specs.declared.fault.Fault.TheVariants.{NoDefect, Order, TooLong, Limit, Strengths, Log, Cert, CertChip}
use Rattle.ca_fault.specs.declared.fault.Fault.TheVariants as fault_
use Rattle.ca_load.specs.declared.cells.TheConstants.{MAX_CELLS}
use Rattle.ca_load.specs.declared.netlists.TheConstants.{MAX_NETLIST}
use Rattle.ca_load.specs.declared.tables.TheConstants.{MAX_SCAN}
use Rattle.ca_load.specs.Files.{IsFileWith, OfFile, IsReadCause}
use Rattle.ca_load.specs.declared.strengths.TheConstants.{MAX_STRENGTHS}
use Rattle.ca_load.specs.Texts.{table_within, strengths_in, HasStrengths, AreCellsWith, OfCells}
use Rattle.ca_load.specs.Texts.{IsLibraryOf, IsNetlistOf, IsTableOf, IsTableAt, Inputs, ReadAs, OfInputs}
use Rattle.ca_load.specs.Chips.{IsChipOf, BreakFirst, IsPlainRule, IsOfCell, IsPlaceOf, IsTracingCause, IsChipCause, IsTraced}
use Rattle.ca_load.specs.Causes.{IsRatioCause, IsStrengthsCause, IsTextCause, IsModuleCause, IsRecordCause, HasLibrary, HasNetlist, IsScanCause, IsChipFault, IsLoadCause}
use Rattle.ca_load.proofs.TableLemmas.{table_of_bytes}
use Rattle.ca_request.specs.Asked.{IsDefectCause}
use Rattle.ca_view.specs.Core.{core_of}
use Rattle.ca_outputs.specs.Outputs.{output_names}
use Rattle.ca_expected.specs.Expected.{AreExpected}
use Rattle.ca_log.specs.declared.record.LogRecord.{LogRecord}
use Rattle.ca_log.specs.LogText.{log_of}
use Rattle.ca_claim.specs.declared.certificate.Certificate.{Certificate}
use Rattle.ca_cert_text.specs.CertFault.{IsTextOf}
use Rattle.ca_chip_cert.specs.Listed.{listed_defects}
use Rattle.ca_stil_laws.specs.Names.{PortsAreNamed}
use Rattle.ca_stil_pairs.specs.declared.file.StilFile.{StilFile}
use Rattle.ca_chip_pairs.specs.Laws.{TextOfLinkedChipIsFile}
use Rattle.ca_patterns.specs.declared.patterns.TheConstants.{MAX_STIL}
use Rattle.ca_patterns.specs.Patterns.{IsPatternsOf, AreFew, IsStilCause, GiveTraced, OfTraced, IsPatternsCause}
use Rattle.ca_patterns.specs.Right.{HasRight, OfRight}
use Rattle.ca_diagnosing.specs.declared.logs.TheConstants.{MAX_LOG}
use Rattle.ca_diagnosing.specs.Diagnosing.{IsLogIn, IsBadLog}
use Rattle.ca_verifying.specs.declared.certificates.TheConstants.{MAX_CERT}
use Rattle.ca_verifying.specs.Verifying.{IsCertificateIn, IsBadCert, IsCertFault}
use Rattle.ca_chip_replay.specs.ChipRun.{RunOf}
use Rattle.ca_words.specs.Words.{table_word, cells_word, cell_files, chip_files, instance_word, chip_defect_word, chip_first_word, chip_last_word, order_word}
use Rattle.ca_words.specs.Words.{stil_word, log_word, cert_word}
use Rattle.ca_words.specs.Words.{IsFlatten, IsSimulate, IsReplay, IsGrade, IsDiagnose, IsVerify, IsBridges, IsOnChip}
use Rattle.ca_on_chip.specs.declared.replays.TheConstants.{MAX_ORDER}
use Rattle.ca_on_chip.specs.OnChip.{GiveChipWith, OfChip, IsDefectWord, IsVectorWord, IsSimulationCause}
use Rattle.ca_on_chip.specs.Replay.{IsAskedRun, HasFaultyLine, HasRun}
use Rattle.ca_flow.specs.Fault.{Outside, IsOwnCause, IsCause}
use Rattle.ca_flow.specs.Complete.{FitsFile, HasEvents, FitsOwn, FitsChip, IsAnswerable}
use Rattle.ca_flow_laws.specs.Same.{IsInputFault}
use Rattle.ca_flow_laws.specs.Reported.{IsInputFile, ReportsAllFiles}
use Rattle.ca_flow_laws.specs.Laws.{HasInputCause, NeverNeitherOnChip}
use Rattle.ca_flow_laws.proofs.LinkLemmas.{traced_also}
use Rattle.ca_flow_laws.proofs.OneLemmas.{AreOne, one_chip, NamesOne, names_one}
use Rattle.ca_flow_laws.proofs.RawLemmas.{raw_cells}
use Rattle.ca_flow_laws.proofs.MadeLemmas.{library_made, netlist_has_memory}
use Rattle.ca_flow_laws.proofs.FirstLemmas.{either, none_broken, no_loop}
use Rattle.ca_flow_laws.proofs.ChainLemmas.{traced_or}
use Rattle.ca_flow_laws.proofs.GivenLemmas.{defect_or, simulate_or, asked_given, has_run, events_or}
use Rattle.ca_flow_laws.proofs.AnsweredLemmas.{fits_defect, fits_simulate, fits_run, has_events, check_own, flatten_own, simulate_own}
use Rattle.ca_flow_laws.proofs.AnsweredLemmas.{atpg_own, certify_own, replay_own, grade_own, diagnose_own, verify_own}
use Rattle.ca_flow_laws.proofs.AnsweredLemmas.{bridges_own}
use Rattle.ca_flow_laws.proofs.OwnLemmas.{named_also}
use Rattle.ca_request.specs.Asked.{IsInstanceCause}
use Rattle.ca_linked.specs.Instances.{IsNamedGate}
use Rattle.ca_flow_laws.proofs.AnsweredLemmas.{fits_grade, fits_diagnose, fits_verify}
use Rattle.ca_flow_laws.proofs.PatternLemmas.{named}
use Rattle.ca_flow_laws.proofs.RightLemmas.{stil_reported, patterns_or}
use Rattle.ca_flow_laws.proofs.WholeCertLemmas.{cert_or}

within_or_past : (n most : ℕ) → (n ≤ most) ⊎ (most < n)
within_or_past n most = elim (dec_le n most) [ yes within ↦ inl within | no past ↦ inr (omega (arith, past)) ]

same_or_other : (n m : ℕ) → (n ≡ m) ⊎ (n ≢ m)
same_or_other n m = elim (dec_le n m) [
  | no past ↦ inr (λ same. omega (arith, past, same))
  | yes within ↦ elim (dec_le m n) [
    | no below ↦ inr (λ same. omega (arith, below, same))
    | yes back ↦ inl (omega (arith, within, back))
  ]
]

-- what a fault reports that has a cause
defect_reported : (instance defect : List ℕ) (chip : LinkedChip) (fault : Fault) → IsDefectCause chip instance defect fault
    → IsInputFault fault × IsDefectWord instance defect fault
defect_reported instance defect chip (NoInstance typed) (same, (some, lacks)) = (tt, (same, some))
defect_reported instance defect chip (NoDefect typed) (same, (some, lacks)) = (tt, (same, some))
defect_reported instance defect chip fault cause = absurd cause

simulation_reported : (instance defect first last : List ℕ) (chip : LinkedChip) (fault : Fault) → IsSimulationCause instance defect first last fault chip
    → IsInputFault fault × (IsVectorWord first last fault ⊎ IsDefectWord instance defect fault)
simulation_reported instance defect first last chip (BadVector typed) (inl (inl cause)) = (tt, inl (inl cause.0))
simulation_reported instance defect first last chip (BadVector typed) (inl (inr cause)) = (tt, inl (inr cause.0))
simulation_reported instance defect first last chip fault (inl cause) = absurd cause
simulation_reported instance defect first last chip fault (inr (fits, (too, cause))) =
    let reported = defect_reported instance defect chip fault cause in (reported.0, inr reported.1)

tracing_reported : (chip : LinkedChip) (fault : Fault) → IsTracingCause fault chip → IsInputFault fault × IsChipFault fault
tracing_reported chip (Chain name) cause = (tt, tt)
tracing_reported chip (Limit limit.Chains count) cause = (tt, tt)
tracing_reported chip fault cause = absurd cause

module _ (words : List (List ℕ)) (outside : Outside) (reported : Files) (are : outside.files ≡ Some reported) (on : IsOnChip words)
    (ports : PortsAreNamed) (law : TextOfLinkedChipIsFile)
    (there : (name : List ℕ) → IsInputFile words name → IsSome (reported name)) (no_answer : IsAnswerable words outside.files → ⊥)
    (no_cause : (fault : Fault) → IsInputFault fault → IsCause words outside outside fault → ⊥) where
  no_load : (fault : Fault) → IsInputFault fault
      → IsLoadCause (chip_files words) outside.files outside.store_faults outside.store_faults fault → ⊥
  no_load fault is cause = no_cause fault is (inr (inl (inr (inr (inr (inr (inl (on, inl cause))))))))

  no_own : (fault : Fault) → IsInputFault fault → IsOwnCause words outside.files outside.store_faults outside.store_faults fault → ⊥
  no_own fault is cause = no_cause fault is (inr (inl (inr (inr (inr (inr (inl (on, inr cause))))))))

  bytes_of : (name : List ℕ) → IsInputFile words name → (bytes : List ℕ) × (reported name ≡ Some bytes)
  bytes_of name is = by (reported name) (there name is)
    where
      by : (file : Option (List ℕ)) → IsSome file → (bytes : List ℕ) × (file ≡ Some bytes)
      by None some = absurd (true≢false (sym some))
      by (Some bytes) some = (bytes, refl)

  module _ (name bytes : List ℕ) (most : ℕ) (is : reported name ≡ Some bytes) where
    too_long : most < length bytes → IsReadCause name outside.files most outside.store_faults outside.store_faults (TooLong name (most + 1))
    too_long past = (
      refl,
      record {
        past = λ other same.
            let one : other ≡ reported = same_Some other reported (sym same ∙ are) in
            subst (λ (it : Files). IsSomeAnd (it name) (λ bytes. most < length bytes)) (sym one)
            (subst (λ file. IsSomeAnd file (λ bytes. most < length bytes)) (sym is) past);
        one_more = refl;
        quiet = refl;
      },
    )

    file_with : (P : List ℕ → Type 0) → length bytes ≤ most → P bytes → IsFileWith reported name most P
    file_with P within held = subst (λ file. IsSomeAnd file (λ bytes. (length bytes ≤ most) × P bytes)) (sym is) (within, held)

    in_file : (P : List ℕ → Type 0) → length bytes ≤ most → P bytes → OfFile outside.files name most P
    in_file P within held = λ other same.
        let one : other ≡ reported = same_Some other reported (sym same ∙ are) in
        subst (λ (it : Files). IsFileWith it name most P) (sym one) (file_with P within held)

  -- the strength table, where the words name one
  strengths_or : (name : Option (List ℕ)) → ((word : List ℕ) → name ≡ Some word → IsInputFile words word)
      → ((fault : Fault) → IsInputFault fault → IsStrengthsCause name outside.files outside.store_faults outside.store_faults fault → ⊥)
      → ((table : StrengthTable) → strengths_in name reported ≡ Some table → ⊥) → ⊥
  strengths_or None input none refutes = refutes default_table refl
  strengths_or (Some name) input none refutes = by (within_or_past (length found.0) MAX_STRENGTHS)
    where
      found : (bytes : List ℕ) × (reported name ≡ Some bytes)
      found = bytes_of name (input name refl)

      read : length found.0 ≤ MAX_STRENGTHS → (given : Result StrengthTable ℕ) → strengths_of found.0 ≡ given → ⊥
      read within (Ok table) is = refutes table (ap table_within found.1 ∙ table_of_bytes found.0 table within is)
      read within (Err row) is =
          none (Strengths row) tt (inr (in_file name found.0 MAX_STRENGTHS found.1 (IsRatioCause (Strengths row)) within is))

      by : (length found.0 ≤ MAX_STRENGTHS) ⊎ (MAX_STRENGTHS < length found.0) → ⊥
      by (inl within) = read within (strengths_of found.0) refl
      by (inr past) = none (TooLong name (MAX_STRENGTHS + 1)) tt (inl (too_long name found.0 MAX_STRENGTHS found.1 past))

  -- the cell netlist under the table
  module _ (table : StrengthTable) (under : strengths_in (table_word words) reported ≡ Some table) where
    has_strengths : HasStrengths outside.files (table_word words)
    has_strengths = λ other same.
        let one : other ≡ reported = same_Some other reported (sym same ∙ are) in
        subst (λ (it : Files). IsSome (strengths_in (table_word words) it)) (sym one) (subst IsSome (sym under) refl)

    cells_with : (bytes : List ℕ) (P : StrengthTable → List ℕ → Type 0) → reported (cells_word words) ≡ Some bytes → length bytes ≤ MAX_CELLS
        → P table bytes → AreCellsWith reported (cell_files words) P
    cells_with bytes P is within held = subst (λ it. IsSomeAnd it (λ table. IsFileWith reported (cells_word words) MAX_CELLS (P table))) (sym under)
        (file_with (cells_word words) bytes MAX_CELLS is (P table) within held)

    in_cells : (bytes : List ℕ) (P : StrengthTable → List ℕ → Type 0) → reported (cells_word words) ≡ Some bytes → length bytes ≤ MAX_CELLS
        → P table bytes → OfCells outside.files (cell_files words) P
    in_cells bytes P is within held = λ other same.
        let one : other ≡ reported = same_Some other reported (sym same ∙ are) in
        subst (λ (it : Files). AreCellsWith it (cell_files words) P) (sym one) (cells_with bytes P is within held)

    under_or : ((library : List Named) → AreCellsWith reported (cell_files words) (IsLibraryOf library)
        → HasLibrary outside.files (cell_files words) → ⊥) → ⊥
    under_or refutes = by (within_or_past (length found.0) MAX_CELLS)
      where
        found : (bytes : List ℕ) × (reported (cells_word words) ≡ Some bytes)
        found = bytes_of (cells_word words) (inr (inl (on, inl (inr refl))))

        read : length found.0 ≤ MAX_CELLS → (given : Result _ SpiceFault) → library_of table found.0 ≡ given → ⊥
        read within (Ok cells) is =
            let reading : Reading = record { cells = cells; current = None } in
            let made = library_made reading (raw_cells table found.0 reading within is) in
            let reads : library_of table found.0 ≡ Ok (map subcircuit_seen made.library) = is ∙ ap (λ it. Ok it) (sym made.seen) in
            refutes made.library (cells_with found.0 (IsLibraryOf made.library) found.1 within (record {
              reads = reads;
              entries = All-from_recursion (λ named. IsEntry named.entry) made.library made.entries;
            })) (in_cells found.0 (λ table bytes. IsOk (library_of table bytes)) found.1 within (rw is refl))
        read within (Err (spice.At line kind)) is =
            no_load (Cells line kind) tt (inl (inl (inr (inr (inr (in_cells found.0 (IsTextCause (Cells line kind)) found.1 within is))))))
        read within (Err (spice.TooManyCells count)) is =
            no_load (Limit limit.Cells count) tt (inl (inl (inr (inr (inr (in_cells found.0 (IsTextCause (Limit limit.Cells count)) found.1 within is))))))
        read within (Err spice.NoMemory) is = reading_has_memory table found.0 is

        by : (length found.0 ≤ MAX_CELLS) ⊎ (MAX_CELLS < length found.0) → ⊥
        by (inl within) = read within (library_of table found.0) refl
        by (inr past) = no_load (TooLong (cells_word words) (MAX_CELLS + 1)) tt
            (inl (inl (inr (inr (inl (has_strengths, too_long (cells_word words) found.0 MAX_CELLS found.1 past))))))

  -- the first files
  cells_or : ((library : List Named) → AreCellsWith reported (cell_files words) (IsLibraryOf library)
      → HasLibrary outside.files (cell_files words) → ⊥) → ⊥
  cells_or refutes = strengths_or (table_word words) (λ name is. inr (inl (on, inl (inl is))))
      (λ fault is cause. no_load fault is (inl (inl (inr (inl cause))))) (λ table under. under_or table under refutes)

  -- the second
  netlist_or : HasLibrary outside.files (chip_files words).cells → ((netlist : RawNetlist)
      → IsFileWith reported (chip_files words).netlist MAX_NETLIST (IsNetlistOf netlist)
      → HasNetlist outside.files (chip_files words).netlist → ⊥) → ⊥
  netlist_or has refutes = by (within_or_past (length found.0) MAX_NETLIST)
    where
      name : List ℕ
      name = (chip_files words).netlist

      found : (bytes : List ℕ) × (reported (chip_files words).netlist ≡ Some bytes)
      found = bytes_of (chip_files words).netlist (inr (inl (on, inr (inl refl))))

      read : length found.0 ≤ MAX_NETLIST → (given : Result RawNetlist VerilogFault) → netlist_of found.0 ≡ given → ⊥
      read within (Ok netlist) is = refutes netlist (file_with name found.0 MAX_NETLIST found.1 (IsNetlistOf netlist) within is)
          (in_file name found.0 MAX_NETLIST found.1 (λ bytes. IsOk (netlist_of bytes)) within (rw is refl))
      read within (Err (verilog.At line kind)) is = no_load (Netlist line kind) tt
          (inl (inr (inl (has, inr (in_file name found.0 MAX_NETLIST found.1 (IsModuleCause (Netlist line kind)) within is)))))
      read within (Err (verilog.TooManyNets count)) is = no_load (Limit limit.Nets count) tt
          (inl (inr (inl (has, inr (in_file name found.0 MAX_NETLIST found.1 (IsModuleCause (Limit limit.Nets count)) within is)))))
      read within (Err verilog.NoMemory) is = netlist_has_memory found.0 is

      by : (length found.0 ≤ MAX_NETLIST) ⊎ (MAX_NETLIST < length found.0) → ⊥
      by (inl within) = read within (netlist_of found.0) refl
      by (inr past) =
          no_load (TooLong name (MAX_NETLIST + 1)) tt (inl (inr (inl (has, inl (too_long name found.0 MAX_NETLIST found.1 past)))))

  -- the third, where the words name one
  table_or : (scan : Option (List ℕ)) → ((name : List ℕ) → scan ≡ Some name → IsInputFile words name)
      → ((fault : Fault) → IsInputFault fault → IsScanCause scan outside.files outside.store_faults outside.store_faults fault → ⊥)
      → ((rows : List ScanRow) → IsTableAt (Some reported) scan rows → ⊥) → ⊥
  table_or None input none refutes = refutes [] refl
  table_or (Some name) input none refutes = by (within_or_past (length found.0) MAX_SCAN)
    where
      found : (bytes : List ℕ) × (reported name ≡ Some bytes)
      found = bytes_of name (input name refl)

      read : length found.0 ≤ MAX_SCAN → (given : Result (List ScanRow) ℕ) → table_of found.0 ≡ given → ⊥
      read within (Ok rows) is = refutes rows (λ other same.
          let one : reported ≡ other = same_Some reported other same in
          subst (λ (it : Files). IsFileWith it name MAX_SCAN (IsTableOf rows)) one (file_with name found.0 MAX_SCAN found.1 (IsTableOf rows) within is))
      read within (Err row) is = none (Scan row) tt (inr (in_file name found.0 MAX_SCAN found.1 (IsRecordCause (Scan row)) within is))

      by : (length found.0 ≤ MAX_SCAN) ⊎ (MAX_SCAN < length found.0) → ⊥
      by (inl within) = read within (table_of found.0) refl
      by (inr past) = none (TooLong name (MAX_SCAN + 1)) tt (inl (too_long name found.0 MAX_SCAN found.1 past))

  inputs_or : ((inputs : Inputs) → ReadAs (chip_files words) inputs reported → ⊥) → ⊥
  inputs_or refutes = cells_or (λ library cells has. netlist_or has (λ netlist tokens too.
      table_or (chip_files words).scan (λ name is. inr (inl (on, inr (inr is))))
      (λ fault is cause. no_load fault is (inl (inr (inr (has, (too, cause))))))
      (λ rows table. refutes (record { library = library; netlist = netlist; rows = rows })
      (record { library = cells; netlist = tokens; rows = table }))))

  module _ (inputs : Inputs) (read : ReadAs (chip_files words) inputs reported) where
    of_inputs : (Holds : Inputs → Type 0) → Holds inputs → OfInputs outside.files (chip_files words) Holds
    of_inputs Holds held = λ other same.
        let one : other ≡ reported = same_Some other reported (sym same ∙ are) in
        subst (λ (it : Files). (inputs : Inputs) × (ReadAs (chip_files words) inputs it × Holds inputs)) (sym one) (inputs, (read, held))

    no_chip_cause : (fault : Fault) → IsInputFault fault → IsChipFault fault → IsChipCause fault inputs → ⊥
    no_chip_cause fault is chip cause = no_load fault is (inr (chip, of_inputs (IsChipCause fault) cause))

    no_plain : (broken : ChipFault) (place : List ℕ) → IsPlainRule broken → IsPlaceOf inputs broken place → BreakFirst inputs broken → ⊥
    no_plain broken place plain placed first = no_chip_cause (fault_.Chip broken place) tt plain (inl (plain, (first, placed)))

    cell_named : (u : InstanceId) (P : RawInstance → Type 0) → IsSomeAnd (slice_get inputs.netlist.instances u.0) P
        → (name : List ℕ) × IsOfCell inputs.netlist u name
    cell_named u P held = by (slice_get inputs.netlist.instances u.0) held
      where
        by : (found : Option RawInstance) → IsSomeAnd found P → (name : List ℕ) × IsSomeAnd found (λ instance. name ≡ upper_case instance.cell)
        by None held = absurd held
        by (Some instance) held = (upper_case instance.cell, refl)

    no_first : (broken : ChipFault) → BreakFirst inputs broken → ⊥
    no_first (rule.UnknownCell u) first = no_plain (rule.UnknownCell u) (cell_text inputs.netlist.instances u.0) tt refl first
    no_first (rule.Cell u broken) first =
        let named = cell_named u _ first.breaks.1 in
        no_chip_cause (Cell named.0 broken (refused_text inputs.netlist inputs.library u.0 broken)) tt tt (inl (u, (named.1, (first, refl))))
    no_first (rule.UnknownPin u pin) first = no_plain (rule.UnknownPin u pin) (pin_text inputs.netlist.instances u.0 pin) tt refl first
    no_first (rule.MissingPin u pin) first = no_plain (rule.MissingPin u pin) (pin_text inputs.netlist.instances u.0 pin) tt refl first
    no_first (rule.DoubleDriven net one two) first =
        let is = first.breaks.1 in
        no_plain (rule.DoubleDriven net one two)
        (wire_text inputs.netlist.buses is.wire (λ name. double_text inputs.netlist.instances name one two)) tt (is.wire, is.is_net, refl) first
    no_first (rule.Undriven net) first =
        let is = first.breaks.1 in
        no_plain (rule.Undriven net) (wire_text inputs.netlist.buses is.wire net_text) tt (is.wire, is.is_net, refl) first
    no_first (rule.ControlPin u pin) first = no_plain (rule.ControlPin u pin) (pin_text inputs.netlist.instances u.0 pin) tt refl first
    no_first (rule.ControlObserved net) first =
        let is = first.breaks.1 in
        no_plain (rule.ControlObserved net) (wire_text inputs.netlist.buses is.wire net_text) tt (is.wire, is.is_net, refl) first
    no_first (rule.QnUsed u) first = no_plain (rule.QnUsed u) (cell_text inputs.netlist.instances u.0) tt refl first
    no_first (rule.Loop instances) first = no_loop (FeedsWire (wiring_of inputs.netlist inputs.library inputs.rows)) (λ loop is once.
        no_plain (rule.Loop loop) (loop_text inputs.netlist.instances loop) once refl
        (record { at = first.at; breaks = (first.breaks.0, is); none_before = first.none_before })) instances first.breaks.1
    no_first (rule.TooManyInstances count) first = no_chip_cause (Limit limit.Instances count) tt tt (inl first)
    no_first (rule.TooManyInputs count) first = no_chip_cause (Limit limit.Inputs count) tt tt (inl first)
    no_first (rule.TooManyOutputs count) first = no_chip_cause (Limit limit.Outputs count) tt tt (inl first)
    no_first (rule.TooManyDefects count) first = no_chip_cause (Limit limit.Defects count) tt tt (inl first)
    no_first rule.NoMemory first = absurd first.breaks

    kept : KeepsRules inputs.netlist inputs.library inputs.rows
    kept = none_broken inputs.netlist inputs.library inputs.rows no_first

    answer : ((chip : LinkedChip) → IsChipOf inputs chip → IsTraced chip) → ((chip : LinkedChip) → IsChipOf inputs chip → FitsOwn words reported chip) → ⊥
    answer traced own =
        let fits : FitsChip words reported = record {
          is = on;
          inputs = inputs;
          read = read;
          gives = record { kept = kept; chains = traced };
          own = own;
        } in
        no_answer (inr (subst (λ it. IsSomeAnd it (λ reported. FitsFile words reported ⊎ FitsChip words reported)) (sym are) (inr fits)))

    module _ (chip : LinkedChip) (is : IsChipOf inputs chip) (traced : IsTraced chip) where
      one : NamesOne chip
      one = names_one (chip_files words) inputs reported chip read is

      of_chip : (Holds : LinkedChip → Type 0) → Holds chip → OfChip outside.files (chip_files words) Holds
      of_chip Holds held = of_inputs (GiveChipWith Holds) (record { chip = chip; is = is; traced = traced; holds = held })

      own_answer : ((also : LinkedChip) → AreOne chip also → NamesOne also → FitsOwn words reported also) → ⊥
      own_answer own = answer (λ also is_also. traced_also chip also (one_chip inputs chip also is is_also).alike traced)
          (λ also is_also. own also (one_chip inputs chip also is is_also) (names_one (chip_files words) inputs reported also read is_also))

      at_flatten : IsFlatten words → ⊥
      at_flatten flatten = defect_or words chip one (λ fault cause.
          let reports = defect_reported (instance_word words) (chip_defect_word words) chip fault cause in
          no_own fault reports.0 (inl (flatten, (reports.1, of_chip (λ chip. IsDefectCause chip (instance_word words) (chip_defect_word words) fault) cause))))
          (λ fits.
          let given = asked_given words chip flatten.defect fits in
          own_answer (λ also same names. flatten_own words reported also flatten (fits_defect words chip also same names given.0 given.1)))

      at_simulate : IsSimulate words → ⊥
      at_simulate simulate = simulate_or words chip one (λ fault cause.
          let reports = simulation_reported (instance_word words) (chip_defect_word words) (chip_first_word words) (chip_last_word words) chip fault cause in
          no_own fault reports.0 (inr (inl (
            simulate,
            (
              reports.1,
              of_chip (IsSimulationCause (instance_word words) (chip_defect_word words)
                  (chip_first_word words) (chip_last_word words) fault) cause,
            ),
          ))))
          (λ fits.
          let given = asked_given words chip simulate.defect fits.defect in
          own_answer (λ also same names.
          simulate_own words reported also simulate (fits_simulate words chip also same names fits.first fits.last given.0 given.1)))

      at_events : IsReplay words → (run : RunOf)
          → IsAskedRun (instance_word words) (chip_defect_word words) (chip_first_word words) (chip_last_word words) chip run → ⊥
      at_events replay run asked = by (within_or_past (length found.0) MAX_ORDER)
        where
          found : (bytes : List ℕ) × (reported (order_word words) ≡ Some bytes)
          found = bytes_of (order_word words) (inr (inr (inl (replay, refl))))

          by : (length found.0 ≤ MAX_ORDER) ⊎ (MAX_ORDER < length found.0) → ⊥
          by (inl within) = events_or run found.0
              (λ events reads. own_answer (λ also same names. replay_own words reported also replay (record {
                pair = fits_run words chip also same names run asked;
                events = file_with (order_word words) found.0 MAX_ORDER found.1 (HasEvents words also) within
                    (has_events words chip also same names found.0 run asked events reads);
              })))
              (λ line faulty. no_own (Order line) tt (inr (inr (inr (inl (
                replay,
                inr (of_chip (λ chip. OfFile outside.files (order_word words) MAX_ORDER
                    (HasFaultyLine (instance_word words) (chip_defect_word words) (chip_first_word words) (chip_last_word words) line chip))
                    (in_file (order_word words) found.0 MAX_ORDER found.1
                    (HasFaultyLine (instance_word words) (chip_defect_word words) (chip_first_word words) (chip_last_word words) line chip)
                    within (record { run = run; asked = asked; faulty = faulty }))),
              ))))))
          by (inr past) = no_own (TooLong (order_word words) (MAX_ORDER + 1)) tt (inr (inr (inr (inl (
            replay,
            inr (
              of_chip (HasRun (instance_word words) (chip_defect_word words) (chip_first_word words) (chip_last_word words)) (run, asked),
              too_long (order_word words) found.0 MAX_ORDER found.1 past,
            ),
          )))))

      at_replay : IsReplay words → ⊥
      at_replay replay = simulate_or words chip one (λ fault cause.
          let reports = simulation_reported (instance_word words) (chip_defect_word words) (chip_first_word words) (chip_last_word words) chip fault cause in
          no_own fault reports.0 (inr (inr (inr (inl (
            replay,
            inl (
              reports.1,
              of_chip (IsSimulationCause (instance_word words) (chip_defect_word words)
                  (chip_first_word words) (chip_last_word words) fault) cause,
            ),
          ))))))
          (λ fits. let run = has_run words chip replay.defect fits in at_events replay run.0 run.1)

      of_traced : (Holds : LinkedChip → List (List ℕ) → Type 0) → Holds chip traced.0 → OfTraced outside.files (chip_files words) Holds
      of_traced Holds held = of_inputs (GiveTraced Holds)
          (record { chip = chip; chains = traced.0; is = is; all = traced.1; holds = held })

      module _ (input : IsInputFile words (stil_word words)) (no_patterns : (fault : Fault) → IsInputFault fault
          → IsPatternsCause (chip_files words) (stil_word words) outside.files outside.store_faults outside.store_faults fault → ⊥) where
        -- the file of patterns
        right_or : ((file : StilFile) (bytes : List ℕ) → reported (stil_word words) ≡ Some bytes → length bytes ≤ MAX_STIL
            → IsPatternsOf chip traced.0 file bytes → AreFew file → AreExpected (core_of chip) file.pairs file.expected → ⊥) → ⊥
        right_or refutes = by (within_or_past (length found.0) MAX_STIL)
          where
            found : (bytes : List ℕ) × (reported (stil_word words) ≡ Some bytes)
            found = bytes_of (stil_word words) input

            by : (length found.0 ≤ MAX_STIL) ⊎ (MAX_STIL < length found.0) → ⊥
            by (inl within) = patterns_or law inputs.netlist inputs.library inputs.rows chip traced.0
                (named ports inputs chip is (reported (chip_files words).netlist) MAX_NETLIST read.netlist) traced.1 found.0
                (λ fault fault_is cause. no_patterns fault (stil_reported fault fault_is) (inr (
                  fault_is,
                  of_traced (λ chip chains. OfFile outside.files (stil_word words) MAX_STIL (IsStilCause chip chains fault))
                      (in_file (stil_word words) found.0 MAX_STIL found.1 (IsStilCause chip traced.0 fault) within cause),
                )))
                (λ file is few right. refutes file found.0 found.1 within is few right)
            by (inr past) = no_patterns (TooLong (stil_word words) (MAX_STIL + 1)) tt
                (inl (of_traced (λ chip chains. ⊤) tt, too_long (stil_word words) found.0 MAX_STIL found.1 past))

      module _ (file : StilFile) (bytes : List ℕ) (found : reported (stil_word words) ≡ Some bytes) (within : length bytes ≤ MAX_STIL)
          (patterns : IsPatternsOf chip traced.0 file bytes) (few : AreFew file) (right : AreExpected (core_of chip) file.pairs file.expected) where
        stil_there : IsFileWith reported (stil_word words) MAX_STIL (IsPatternsOf chip traced.0 file)
        stil_there = file_with (stil_word words) bytes MAX_STIL found (IsPatternsOf chip traced.0 file) within patterns

        of_right : (Holds : LinkedChip → StilFile → Type 0) → Holds chip file → OfRight outside.files (chip_files words) (stil_word words) Holds
        of_right Holds held = of_traced (λ chip chains. OfFile outside.files (stil_word words) MAX_STIL (HasRight chip chains (Holds chip)))
            (in_file (stil_word words) bytes MAX_STIL found (HasRight chip traced.0 (Holds chip)) within
            (record { file = file; is = patterns; few = few; right = right; holds = held }))

        at_log : IsDiagnose words → ⊥
        at_log diagnose = by (within_or_past (length logged.0) MAX_LOG)
          where
            logged : (bytes : List ℕ) × (reported (log_word words) ≡ Some bytes)
            logged = bytes_of (log_word words) (inr (inr (inr (inr (inl (diagnose, inr refl))))))

            of_log : length logged.0 ≤ MAX_LOG → (given : Result (List LogRecord) ℕ)
                → log_of (output_names chip) file.expected logged.0 ≡ given → ⊥
            of_log short (Ok log) same = own_answer (λ also one_is names. diagnose_own words reported also diagnose
                (fits_diagnose words reported chip also one_is traced.0 traced.1 (record {
                  file = file;
                  few = few;
                  right = right;
                  there = stil_there;
                  logged = log;
                  log_there = file_with (log_word words) logged.0 MAX_LOG logged.1 (IsLogIn chip file.expected log) short same;
                })))
            of_log short (Err row) same = no_own (Log row) tt (inr (inr (inr (inr (inr (inl (
              diagnose,
              inr (inr (
                tt,
                of_right (λ chip file. OfFile outside.files (log_word words) MAX_LOG (IsBadLog chip file.expected (Log row)))
                    (in_file (log_word words) logged.0 MAX_LOG logged.1 (IsBadLog chip file.expected (Log row)) short same),
              )),
            )))))))

            by : (length logged.0 ≤ MAX_LOG) ⊎ (MAX_LOG < length logged.0) → ⊥
            by (inl short) = of_log short (log_of (output_names chip) file.expected logged.0) refl
            by (inr past) = no_own (TooLong (log_word words) (MAX_LOG + 1)) tt (inr (inr (inr (inr (inr (inl (
              diagnose,
              inr (inl (of_right (λ chip file. ⊤) tt, too_long (log_word words) logged.0 MAX_LOG logged.1 past)),
            )))))))

        at_cert : IsVerify words → ⊥
        at_cert verify = by (within_or_past (length claimed.0) MAX_CERT)
          where
            claimed : (bytes : List ℕ) × (reported (cert_word words) ≡ Some bytes)
            claimed = bytes_of (cert_word words) (inr (inr (inr (inr (inr (verify, inr refl))))))

            no_cert : length claimed.0 ≤ MAX_CERT → (fault : Fault) → IsInputFault fault → IsCertFault fault → IsBadCert chip fault claimed.0 → ⊥
            no_cert short fault fault_is of_cert bad = no_own fault fault_is (inr (inr (inr (inr (inr (inr (inr (inl (
              verify,
              inr (inr (
                of_cert,
                of_right (λ chip file. OfFile outside.files (cert_word words) MAX_CERT (IsBadCert chip fault))
                    (in_file (cert_word words) claimed.0 MAX_CERT claimed.1 (IsBadCert chip fault) short bad),
              )),
            )))))))))

            counted : length claimed.0 ≤ MAX_CERT → (certificate : Certificate) → IsTextOf claimed.0 certificate → ⊥
            counted short certificate text = elim (same_or_other (length certificate.claims) (length (listed_defects chip))) [
              | inl same ↦ own_answer (λ also one_is names. verify_own words reported also verify
                  (fits_verify words reported chip also one_is traced.0 traced.1 (record {
                    file = file;
                    few = few;
                    right = right;
                    there = stil_there;
                    certificate = certificate;
                    one_each = same;
                    cert_there = file_with (cert_word words) claimed.0 MAX_CERT claimed.1 (IsCertificateIn certificate) short text;
                  })))
              | inr other ↦ no_cert short (CertChip (length certificate.claims)) tt tt
                  (record { certificate = certificate; is = text; counted = refl; other = other })
            ]

            by : (length claimed.0 ≤ MAX_CERT) ⊎ (MAX_CERT < length claimed.0) → ⊥
            by (inl short) = cert_or claimed.0 (λ line faulty. no_cert short (Cert line) tt tt faulty) (counted short)
            by (inr past) = no_own (TooLong (cert_word words) (MAX_CERT + 1)) tt (inr (inr (inr (inr (inr (inr (inr (inl (
              verify,
              inr (inl (
                of_right (λ chip file. ⊤) tt,
                too_long (cert_word words) claimed.0 MAX_CERT claimed.1 past,
              )),
            )))))))))

      at_grade : IsGrade words → ⊥
      at_grade grade = right_or (inr (inr (inr (inl (grade, refl)))))
          (λ fault is cause. no_own fault is (inr (inr (inr (inr (inl (grade, cause)))))))
          (λ file bytes found within patterns few right. own_answer (λ also one_is names. grade_own words reported also grade
          (fits_grade words reported chip also one_is traced.0 traced.1 (record {
            file = file;
            few = few;
            right = right;
            there = stil_there file bytes found within patterns few right;
          }))))

      at_diagnose : IsDiagnose words → ⊥
      at_diagnose diagnose = right_or (inr (inr (inr (inr (inl (diagnose, inl refl))))))
          (λ fault is cause. no_own fault is (inr (inr (inr (inr (inr (inl (diagnose, inl cause))))))))
          (λ file bytes found within patterns few right. at_log file bytes found within patterns few right diagnose)

      at_verify : IsVerify words → ⊥
      at_verify verify = right_or (inr (inr (inr (inr (inr (verify, inl refl))))))
          (λ fault is cause. no_own fault is (inr (inr (inr (inr (inr (inr (inr (inl (verify, inl cause))))))))))
          (λ file bytes found within patterns few right. at_cert file bytes found within patterns few right verify)

      at_bridges : IsBridges words → ⊥
      at_bridges bridges = either ((u : ℕ) × IsNamedGate chip (instance_word words) u) (λ found. elim found [
        | inl it ↦ own_answer (λ also same names.
            bridges_own words reported also bridges (it.0, named_also chip also same (instance_word words) it.0 it.1))
        | inr none ↦ no_own (NoInstance (instance_word words)) tt (inr (inr (inr (inr (inr (inr (inr (inr (
          bridges,
          (
            refl,
            of_chip (λ chip. IsInstanceCause chip (instance_word words) (NoInstance (instance_word words)))
                (refl, λ u named. none (u, named)),
          ),
        )))))))))
      ])

      at_chip : IsOnChip words → ⊥
      at_chip (inl check) = own_answer (λ also same names. check_own words reported also check)
      at_chip (inr (inl flatten)) = at_flatten flatten
      at_chip (inr (inr (inl simulate))) = at_simulate simulate
      at_chip (inr (inr (inr (inl atpg)))) = own_answer (λ also same names. atpg_own words reported also atpg)
      at_chip (inr (inr (inr (inr (inl replay))))) = at_replay replay
      at_chip (inr (inr (inr (inr (inr (inl grade)))))) = at_grade grade
      at_chip (inr (inr (inr (inr (inr (inr (inl diagnose))))))) = at_diagnose diagnose
      at_chip (inr (inr (inr (inr (inr (inr (inr (inl certify)))))))) = own_answer (λ also same names. certify_own words reported also certify)
      at_chip (inr (inr (inr (inr (inr (inr (inr (inr (inl verify))))))))) = at_verify verify
      at_chip (inr (inr (inr (inr (inr (inr (inr (inr (inr bridges))))))))) = at_bridges bridges

    at_inputs : ⊥
    at_inputs = either ((chip : LinkedChip) × IsChipOf inputs chip) (λ found. elim found [
      | inr none ↦ answer (λ chip is. absurd (none (chip, is))) (λ chip is. absurd (none (chip, is)))
      | inl it ↦ traced_or it.0 (λ fault cause.
          let reports = tracing_reported it.0 fault cause in
          no_chip_cause fault reports.0 reports.1 (inr (record { chip = it.0; is = it.1; cause = cause })))
          (λ traced. at_chip it.0 it.1 traced on)
    ])

  neither : ⊥
  neither = inputs_or at_inputs

-- not neither
pub never_neither : PortsAreNamed → TextOfLinkedChipIsFile → NeverNeitherOnChip
never_neither ports law words outside reports on refutes = by outside.files refl reports
  where
    by : (files : Option Files) → outside.files ≡ files
        → IsSomeAnd files (λ reported. (name : List ℕ) → IsInputFile words name → IsSome (reported name)) → ⊥
    by None are reports = reports
    by (Some reported) are reports = neither words outside reported are on ports law reports (λ answer. refutes (inl answer))
        (λ fault is cause. refutes (inr (fault, (is, cause))))
