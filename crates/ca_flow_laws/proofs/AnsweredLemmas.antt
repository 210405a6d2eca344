-- A command that did its work could be answered, so that a fault of input that has a cause is reported.
use Rattle.std.proofs.Common.{ℕ, Bool, ◌≡◌, ◌≤◌, ◌⊎◌, ◌∙◌, inl, inr, refl, sym, ap, subst, arith, List, length, Option, Some, None, Ok}
use Rattle.std.proofs.Common.{true≢false}
use Rattle.std.specs.Prelude.{IfSome, IsSome, IsSomeAnd}
use Rattle.ca_store.specs.Store.{Files}
use Rattle.ca_cell.specs.declared.raw.RawCell.{RawCell}
use Rattle.ca_cell.specs.declared.strength.StrengthTable.{StrengthTable}
use Rattle.ca_spice.specs.Called.{cell_called}
use Rattle.ca_net.specs.declared.trit.Trit.{Trit}
use Rattle.ca_flat.specs.declared.chip_defect.ChipDefect.{ChipDefect}
use Rattle.ca_flat.specs.Chip.{cell_at}
use Rattle.ca_linked.specs.Linked.{LinkedChip}
use Rattle.ca_view.specs.Core.{core_of}
use Rattle.ca_fault.specs.declared.fault.Fault.{Fault}
use Rattle.ca_load.specs.declared.cells.TheConstants.{MAX_CELLS}
use Rattle.ca_load.specs.Files.{IsFileWith}
use Rattle.ca_load.specs.Texts.{strengths_in}
use Rattle.ca_load.specs.Chips.{IsTraced}
use Rattle.ca_request.specs.Asked.{FitsInputs, defect_called, IsAskedDefect}
use Rattle.ca_chip_replay.specs.ChipRun.{RunOf}
use Rattle.ca_order.specs.declared.event.Event.{Event}
use Rattle.ca_simulate.specs.OneRun.{ReadsRun}
use Rattle.ca_words.specs.Words.{table_word, cells_word, cell_files, cell_word, vector_word, first_word, last_word, defect_word, dash, chip_files, instance_word}
use Rattle.ca_words.specs.Words.{chip_defect_word, chip_first_word, chip_last_word, order_word, stil_word, log_word, cert_word}
use Rattle.ca_words.specs.Words.{IsCheck, IsFlatten, IsSimulate, IsAtpg, IsReplay, IsGrade, IsDiagnose, IsCertify, IsVerify, IsBridges, IsOnChip}
use Rattle.ca_scan.specs.ChainFault.{AreAllChains}
use Rattle.ca_scan.proofs.AnswerLemmas.{one_answer}
use Rattle.ca_credit.specs.declared.limit.TheConstants.{MOST_PAIRS}
use Rattle.ca_expected.specs.Expected.{AreExpected}
use Rattle.ca_stil_pairs.specs.File.{IsFileOf}
use Rattle.ca_stil_pairs.specs.declared.file.StilFile.{StilFile}
use Rattle.ca_stil.specs.declared.chip.StilChip.{StilChip}
use Rattle.ca_flat.specs.Chip as flat
use Rattle.ca_link_laws.proofs.TraceLemmas.{one_trace}
use Rattle.ca_patterns.specs.declared.patterns.TheConstants.{MAX_STIL}
use Rattle.ca_patterns.specs.Patterns.{FitsPatterns, IsPatternsOf}
use Rattle.ca_grading.specs.Grading.{ListsPairs}
use Rattle.ca_flow_laws.proofs.StilLemmas.{same_stil}
use Rattle.ca_diagnosing.specs.declared.logs.TheConstants.{MAX_LOG}
use Rattle.ca_diagnosing.specs.Diagnosing.{IsLogIn, FitsDiagnosis, AreCandidatesByFiles}
use Rattle.ca_verifying.specs.Verifying.{FitsVerification}
use Rattle.ca_log.specs.declared.record.LogRecord.{LogRecord}
use Rattle.ca_diag.specs.declared.candidate.Candidate as candidate
use Rattle.ca_flow_laws.proofs.LogLemmas.{log_in_also}
use Rattle.ca_on_cell.specs.Outputs.{asked_network, AreValues}
use Rattle.ca_on_cell.specs.Cells.{HasCell, OfCell}
use Rattle.ca_on_cell.specs.Defects.{AreDefectNames, IsSoundMatrix}
use Rattle.ca_on_chip.specs.declared.replays.TheConstants.{MAX_ORDER}
use Rattle.ca_on_chip.specs.OnChip.{IsChipOfFiles}
use Rattle.ca_on_chip.specs.Replay.{IsAskedRun, AreRunEndsOf}
use Rattle.ca_flow.specs.declared.finished.Done.{Done}
use Rattle.ca_flow.specs.declared.finished.Done.TheVariants.{Respond, Pair, Defects, Matrix, Check, Flatten}
use Rattle.ca_flow.specs.declared.finished.Done.TheVariants.{Simulate, Atpg, Replay, Grade, Diagnose, Certify, Verify, Bridges, Make, Help, Version}
use Rattle.ca_flow.specs.declared.finished.Finished.{Finished}
use Rattle.ca_flow.specs.Finished.{status_reported}
use Rattle.ca_flow.specs.Fault.{Outside, IsCause}
use Rattle.ca_flow.specs.Complete.{FitsCell, FitsFile, FitsDefect, FitsSimulate, HasEvents, FitsReplay, FitsGrade, FitsDiagnose, FitsVerify, FitsBridges, FitsOwn, FitsChip, IsAnswerable}
use Rattle.ca_flow.specs.Ends.{IsAsked, Ends}
use Rattle.ca_flow_laws.specs.Same.{IsInputFault, IsCallFault, IsSame}
use Rattle.ca_flow_laws.specs.Reported.{IsInputFile, ReportsFiles}
use Rattle.ca_flow_laws.proofs.LinkLemmas.{traced_also}
use Rattle.ca_flow_laws.proofs.OneLemmas.{AreOne, one_chip, one_back, NamesOne, names_one}
use Rattle.ca_flow_laws.proofs.OwnLemmas.{named_also, fits_also, asked_also, run_also, one_run}
use Rattle.ca_flow_laws.proofs.CellLemmas.{respond_or_pair}
use Rattle.ca_flow_laws.proofs.ChipLemmas.{flatten_or_simulate, flatten_or_replay, simulate_or_replay, atpg_or_flatten, atpg_or_simulate, atpg_or_replay}
use Rattle.ca_flow_laws.proofs.ChipLemmas.{flatten_or_grade, simulate_or_grade, replay_or_grade, atpg_or_grade}
use Rattle.ca_flow_laws.proofs.ChipLemmas.{flatten_or_diagnose, simulate_or_diagnose, replay_or_diagnose, atpg_or_diagnose, grade_or_diagnose}
use Rattle.ca_flow_laws.proofs.ChipLemmas.{flatten_or_bridges, simulate_or_bridges, replay_or_bridges, atpg_or_bridges, grade_or_bridges}
use Rattle.ca_flow_laws.proofs.ChipLemmas.{diagnose_or_bridges, verify_or_bridges, certify_or_bridges}
use Rattle.ca_flow_laws.proofs.ChipLemmas.{flatten_or_verify, simulate_or_verify, replay_or_verify, atpg_or_verify, grade_or_verify, diagnose_or_verify}
use Rattle.ca_flow_laws.proofs.ChipLemmas.{certify_or_flatten, certify_or_simulate, certify_or_replay, certify_or_grade, certify_or_diagnose, certify_or_verify}
use Rattle.ca_flow_laws.proofs.CertLemmas.{one_each_also}
use Rattle.ca_flow_laws.proofs.ExactLemmas.{one_cause}
use Rattle.ca_flow_laws.proofs.PairsLemmas.{kind_of_fault, no_pairs}
use Rattle.ca_flow_laws.proofs.FitsLemmas.{respond_or_defects, pair_or_defects, pair_or_matrix, respond_or_matrix, no_cause}

some_of : {A : Type 0} (P : A → Type 0) (reported : Option A) → IsSomeAnd reported P → IsSome reported
some_of P None held = absurd held
some_of P (Some it) held = refl

-- words of two commands
check_or_flatten : (words : List (List ℕ)) → IsCheck words → IsFlatten words → ⊥
check_or_flatten words one other = let four = one.four in let seven = other.seven in omega (arith, four, seven)

check_or_simulate : (words : List (List ℕ)) → IsCheck words → IsSimulate words → ⊥
check_or_simulate words one other = let four = one.four in let eight = other.eight in omega (arith, four, eight)

check_or_replay : (words : List (List ℕ)) → IsCheck words → IsReplay words → ⊥
check_or_replay words one other = let four = one.four in let nine = other.nine in omega (arith, four, nine)

check_or_grade : (words : List (List ℕ)) → IsCheck words → IsGrade words → ⊥
check_or_grade words one other = let four = one.four in let six = other.six in omega (arith, four, six)

check_or_diagnose : (words : List (List ℕ)) → IsCheck words → IsDiagnose words → ⊥
check_or_diagnose words one other = let four = one.four in let seven = other.seven in omega (arith, four, seven)

check_or_verify : (words : List (List ℕ)) → IsCheck words → IsVerify words → ⊥
check_or_verify words one other = let four = one.four in let six = other.six in omega (arith, four, six)

check_or_bridges : (words : List (List ℕ)) → IsCheck words → IsBridges words → ⊥
check_or_bridges words one other = let four = one.four in let eight = other.eight in omega (arith, four, eight)

-- what words name of a chip, they name of one that is one with it
module _ (words : List (List ℕ)) (chip also : LinkedChip) (are : AreOne chip also) (one : NamesOne also) where
  pub fits_defect : (given : Option ChipDefect) → IsAskedDefect chip (instance_word words) (chip_defect_word words) given → FitsDefect words also
  fits_defect given asked = by given (asked_also chip also are (instance_word words) (chip_defect_word words) given asked)
    where
      by : (given : Option ChipDefect) → IsAskedDefect also (instance_word words) (chip_defect_word words) given → FitsDefect words also
      by None asked = inl asked.0
      by (Some given) asked = inr (record {
        u = given.instance;
        named = asked.named;
        called = λ v named.
            let same : given.instance ≡ v = one (instance_word words) given.instance v asked.named named in
            let called : defect_called (cell_at (core_of also) v) (chip_defect_word words) ≡ Some given.defect =
            subst (λ u. defect_called (cell_at (core_of also) u) (chip_defect_word words) ≡ Some given.defect) same asked.called in
            rw called refl;
      })

  pub fits_simulate : FitsInputs chip (chip_first_word words) → FitsInputs chip (chip_last_word words) → (given : Option ChipDefect)
      → IsAskedDefect chip (instance_word words) (chip_defect_word words) given → FitsSimulate words also
  fits_simulate first last given asked = record {
    first = fits_also chip also are (chip_first_word words) first;
    last = fits_also chip also are (chip_last_word words) last;
    defect = fits_defect given asked;
  }

  pub fits_run : (run : RunOf) → IsAskedRun (instance_word words) (chip_defect_word words) (chip_first_word words) (chip_last_word words) chip run
      → FitsSimulate words also
  fits_run run asked = fits_simulate asked.first_fits asked.last_fits asked.given asked.asked

  -- a text that names events of one run names some of each that the words name
  pub has_events : (text : List ℕ) (run : RunOf)
      → IsAskedRun (instance_word words) (chip_defect_word words) (chip_first_word words) (chip_last_word words) chip run
      → (events : List Event) → ReadsRun run text (Ok events) → HasEvents words also text
  has_events text run asked events reads = λ other asked_other.
      let same : run ≡ other = one_run also one (instance_word words) (chip_defect_word words) (chip_first_word words) (chip_last_word words) run other
      (run_also chip also are (instance_word words) (chip_defect_word words) (chip_first_word words) (chip_last_word words) run asked) asked_other in
      (events, subst (λ it. ReadsRun it text (Ok events)) same reads)

-- what a command has to fit is of its own words alone
module _ (words : List (List ℕ)) (reported : Files) (chip : LinkedChip) where
  pub check_own : IsCheck words → FitsOwn words reported chip
  check_own is = record {
    flatten = λ flatten. absurd (check_or_flatten words is flatten);
    simulate = λ simulate. absurd (check_or_simulate words is simulate);
    replay = λ replay. absurd (check_or_replay words is replay);
    grade = λ grade. absurd (check_or_grade words is grade);
    diagnose = λ diagnose. absurd (check_or_diagnose words is diagnose);
    verify = λ verify. absurd (check_or_verify words is verify);
    bridges = λ bridges. absurd (check_or_bridges words is bridges);
  }

  pub flatten_own : IsFlatten words → FitsDefect words chip → FitsOwn words reported chip
  flatten_own is fits = record {
    flatten = λ _. fits;
    simulate = λ simulate. absurd (flatten_or_simulate words is simulate);
    replay = λ replay. absurd (flatten_or_replay words is replay);
    grade = λ grade. absurd (flatten_or_grade words is grade);
    diagnose = λ diagnose. absurd (flatten_or_diagnose words is diagnose);
    verify = λ verify. absurd (flatten_or_verify words is verify);
    bridges = λ bridges. absurd (flatten_or_bridges words is bridges);
  }

  pub simulate_own : IsSimulate words → FitsSimulate words chip → FitsOwn words reported chip
  simulate_own is fits = record {
    flatten = λ flatten. absurd (flatten_or_simulate words flatten is);
    simulate = λ _. fits;
    replay = λ replay. absurd (simulate_or_replay words is replay);
    grade = λ grade. absurd (simulate_or_grade words is grade);
    diagnose = λ diagnose. absurd (simulate_or_diagnose words is diagnose);
    verify = λ verify. absurd (simulate_or_verify words is verify);
    bridges = λ bridges. absurd (simulate_or_bridges words is bridges);
  }

  pub atpg_own : IsAtpg words → FitsOwn words reported chip
  atpg_own is = record {
    flatten = λ flatten. absurd (atpg_or_flatten words is flatten);
    simulate = λ simulate. absurd (atpg_or_simulate words is simulate);
    replay = λ replay. absurd (atpg_or_replay words is replay);
    grade = λ grade. absurd (atpg_or_grade words is grade);
    diagnose = λ diagnose. absurd (atpg_or_diagnose words is diagnose);
    verify = λ verify. absurd (atpg_or_verify words is verify);
    bridges = λ bridges. absurd (atpg_or_bridges words is bridges);
  }

  pub replay_own : IsReplay words → FitsReplay words reported chip → FitsOwn words reported chip
  replay_own is fits = record {
    flatten = λ flatten. absurd (flatten_or_replay words flatten is);
    simulate = λ simulate. absurd (simulate_or_replay words simulate is);
    replay = λ _. fits;
    grade = λ grade. absurd (replay_or_grade words is grade);
    diagnose = λ diagnose. absurd (replay_or_diagnose words is diagnose);
    verify = λ verify. absurd (replay_or_verify words is verify);
    bridges = λ bridges. absurd (replay_or_bridges words is bridges);
  }

  pub grade_own : IsGrade words → FitsGrade words reported chip → FitsOwn words reported chip
  grade_own is fits = record {
    flatten = λ flatten. absurd (flatten_or_grade words flatten is);
    simulate = λ simulate. absurd (simulate_or_grade words simulate is);
    replay = λ replay. absurd (replay_or_grade words replay is);
    grade = λ _. fits;
    diagnose = λ diagnose. absurd (grade_or_diagnose words is diagnose);
    verify = λ verify. absurd (grade_or_verify words is verify);
    bridges = λ bridges. absurd (grade_or_bridges words is bridges);
  }

  pub diagnose_own : IsDiagnose words → FitsDiagnose words reported chip → FitsOwn words reported chip
  diagnose_own is fits = record {
    flatten = λ flatten. absurd (flatten_or_diagnose words flatten is);
    simulate = λ simulate. absurd (simulate_or_diagnose words simulate is);
    replay = λ replay. absurd (replay_or_diagnose words replay is);
    grade = λ grade. absurd (grade_or_diagnose words grade is);
    diagnose = λ _. fits;
    verify = λ verify. absurd (diagnose_or_verify words is verify);
    bridges = λ bridges. absurd (diagnose_or_bridges words is bridges);
  }

  pub certify_own : IsCertify words → FitsOwn words reported chip
  certify_own is = record {
    flatten = λ flatten. absurd (certify_or_flatten words is flatten);
    simulate = λ simulate. absurd (certify_or_simulate words is simulate);
    replay = λ replay. absurd (certify_or_replay words is replay);
    grade = λ grade. absurd (certify_or_grade words is grade);
    diagnose = λ diagnose. absurd (certify_or_diagnose words is diagnose);
    verify = λ verify. absurd (certify_or_verify words is verify);
    bridges = λ bridges. absurd (certify_or_bridges words is bridges);
  }

  pub verify_own : IsVerify words → FitsVerify words reported chip → FitsOwn words reported chip
  verify_own is fits = record {
    flatten = λ flatten. absurd (flatten_or_verify words flatten is);
    simulate = λ simulate. absurd (simulate_or_verify words simulate is);
    replay = λ replay. absurd (replay_or_verify words replay is);
    grade = λ grade. absurd (grade_or_verify words grade is);
    diagnose = λ diagnose. absurd (diagnose_or_verify words diagnose is);
    verify = λ _. fits;
    bridges = λ bridges. absurd (verify_or_bridges words is bridges);
  }

  pub bridges_own : IsBridges words → FitsBridges words chip → FitsOwn words reported chip
  bridges_own is fits = record {
    flatten = λ flatten. absurd (flatten_or_bridges words flatten is);
    simulate = λ simulate. absurd (simulate_or_bridges words simulate is);
    replay = λ replay. absurd (replay_or_bridges words replay is);
    grade = λ grade. absurd (grade_or_bridges words grade is);
    diagnose = λ diagnose. absurd (diagnose_or_bridges words diagnose is);
    verify = λ verify. absurd (verify_or_bridges words verify is);
    bridges = λ _. fits;
  }

-- patterns of a chip, and logs, are those of one that is one with it
module _ (words : List (List ℕ)) (reported : Files) (chip also : LinkedChip) (are : AreOne chip also) (chains : List (List ℕ))
    (all : AreAllChains chip chains) where
  back : AreOne also chip
  back = one_back chip also are

  same_chains : (others : List (List ℕ)) → AreAllChains also others → chains ≡ others
  same_chains others also_all = (one_answer chip).one_list chains others all ((one_trace also chip back.alike).chains others also_all)

  stil_there : (read : StilFile) (file : Option (List ℕ))
      → IsSomeAnd file (λ bytes. (length bytes ≤ MAX_STIL) × IsPatternsOf chip chains read bytes)
      → IsSomeAnd file (λ bytes. (length bytes ≤ MAX_STIL) × IsPatternsOf also chains read bytes)
  stil_there read None held = held
  stil_there read (Some bytes) (within, is) =
      (within, subst (λ (stil : StilChip). IsFileOf stil bytes read) (same_stil chip also are.alike chains) is)

  log_there : (expected : List (List Trit)) (logged : List LogRecord) (file : Option (List ℕ))
      → IsSomeAnd file (λ bytes. (length bytes ≤ MAX_LOG) × IsLogIn chip expected logged bytes)
      → IsSomeAnd file (λ bytes. (length bytes ≤ MAX_LOG) × IsLogIn also expected logged bytes)
  log_there expected logged None held = held
  log_there expected logged (Some bytes) (within, is) = (within, log_in_also chip also are expected logged bytes is)

  right_also : (read : StilFile) → AreExpected (core_of chip) read.pairs read.expected → AreExpected (core_of also) read.pairs read.expected
  right_also read right = subst (λ (core : flat.Chip). AreExpected core read.pairs read.expected) are.core right

  pub fits_grade : FitsPatterns reported (stil_word words) chip chains → FitsGrade words reported also
  fits_grade fits others also_all = subst (FitsPatterns reported (stil_word words) also) (same_chains others also_all) (record {
    file = fits.file;
    few = fits.few;
    right = right_also fits.file fits.right;
    there = stil_there fits.file (reported (stil_word words)) fits.there;
  })

  pub fits_diagnose : FitsDiagnosis reported (stil_word words) (log_word words) chip chains → FitsDiagnose words reported also
  fits_diagnose fits others also_all =
      subst (FitsDiagnosis reported (stil_word words) (log_word words) also) (same_chains others also_all) (record {
        file = fits.file;
        few = fits.few;
        right = right_also fits.file fits.right;
        there = stil_there fits.file (reported (stil_word words)) fits.there;
        logged = fits.logged;
        log_there = log_there fits.file.expected fits.logged (reported (log_word words)) fits.log_there;
      })

  pub fits_verify : FitsVerification reported (stil_word words) (cert_word words) chip chains → FitsVerify words reported also
  fits_verify fits others also_all =
      subst (FitsVerification reported (stil_word words) (cert_word words) also) (same_chains others also_all) (record {
        file = fits.file;
        few = fits.few;
        right = right_also fits.file fits.right;
        there = stil_there fits.file (reported (stil_word words)) fits.there;
        certificate = fits.certificate;
        one_each = one_each_also chip also are fits.certificate fits.one_each;
        cert_there = fits.cert_there;
      })

module _ (words : List (List ℕ)) (files : Option Files) (reported : Files) (are : files ≡ Some reported) where
  -- what holds of the subcircuit, in another's place
  weaker : (P : RawCell → Type 0) → ((raw : RawCell) → P raw → FitsCell words raw) → OfCell files (cell_files words) (cell_word words) P → FitsFile words reported
  weaker P next held = by_table (strengths_in (table_word words) reported) (held reported are)
    where
      by_cell : (called : Option RawCell) → IsSomeAnd called P → IsSomeAnd called (FitsCell words)
      by_cell None held = held
      by_cell (Some raw) held = next raw held

      by : (table : StrengthTable) (file : Option (List ℕ)) → IsSomeAnd file (λ bytes. (length bytes ≤ MAX_CELLS) × HasCell (cell_word words) P table bytes)
          → IsSomeAnd file (λ bytes. (length bytes ≤ MAX_CELLS) × HasCell (cell_word words) (FitsCell words) table bytes)
      by table None held = held
      by table (Some bytes) held = (held.0, by_cell (cell_called table bytes (cell_word words)) held.1)

      by_table : (under : Option StrengthTable)
          → IsSomeAnd under (λ table. IsFileWith reported (cells_word words) MAX_CELLS (HasCell (cell_word words) P table))
          → IsSomeAnd under (λ table. IsFileWith reported (cells_word words) MAX_CELLS (HasCell (cell_word words) (FitsCell words) table))
      by_table None held = held
      by_table (Some table) held = by table (reported (cells_word words)) held

  of_file : FitsFile words reported → IsAnswerable words files
  of_file fits = inr (subst (λ it. IsSomeAnd it (λ reported. FitsFile words reported ⊎ FitsChip words reported)) (sym are) (inl fits))

  -- a chip with chains whose own words fit
  of_chip : IsOnChip words → (chip : LinkedChip) → IsTraced chip → IsChipOfFiles files (chip_files words) chip
      → ((also : LinkedChip) → AreOne chip also → NamesOne also → FitsOwn words reported also) → IsAnswerable words files
  of_chip is chip traced held own =
      let found = held reported are in
      let fits : FitsChip words reported = record {
        is = is;
        inputs = found.0;
        read = found.1.0;
        gives = record {
          kept = found.1.1.kept;
          chains = λ also is_also. traced_also chip also (one_chip found.0 chip also found.1.1 is_also).alike traced;
        };
        own = λ also is_also. own also (one_chip found.0 chip also found.1.1 is_also) (names_one (chip_files words) found.0 reported also found.1.0 is_also);
      } in
      inr (subst (λ it. IsSomeAnd it (λ reported. FitsFile words reported ⊎ FitsChip words reported)) (sym are) (inr fits))

  -- the file of events fits each of the chips
  fits_replay : (chip also : LinkedChip) → AreOne chip also → NamesOne also → (values : List Trit) → (file : Option (List ℕ))
      → reported (order_word words) ≡ file
      → IsSomeAnd file (λ bytes. (length bytes ≤ MAX_ORDER) × AreRunEndsOf (instance_word words) (chip_defect_word words) (chip_first_word words)
      (chip_last_word words) chip values bytes)
      → FitsReplay words reported also
  fits_replay chip also same one values None is held = absurd held
  fits_replay chip also same one values (Some bytes) is (within, ends) = record {
    pair = fits_run words chip also same one ends.run ends.asked;
    events = rw is (within, has_events words chip also same one bytes ends.run ends.asked ends.ends.events ends.ends.reads);
  }

  -- the file lists the pairs
  lists : (chip : LinkedChip) (chains : List (List ℕ)) (pairs : List (List Bool)) → length pairs ≤ MOST_PAIRS → (file : Option (List ℕ))
      → reported (stil_word words) ≡ file → IsSomeAnd file (λ bytes. (length bytes ≤ MAX_STIL) × ListsPairs chip chains pairs bytes)
      → FitsPatterns reported (stil_word words) chip chains
  lists chip chains pairs few None is held = absurd held
  lists chip chains pairs few (Some bytes) is (within, held) = record {
    file = record { pairs = pairs; expected = held.expected };
    few = few;
    right = held.right;
    there = rw is (within, held.is);
  }

  -- the files have right patterns, and a log for them
  have_log : (chip : LinkedChip) (chains : List (List ℕ)) (pairs : List (List Bool)) (log : List LogRecord)
      (candidates : List candidate.Candidate)
      → AreCandidatesByFiles files (stil_word words) (log_word words) chip chains pairs log candidates
      → FitsDiagnosis reported (stil_word words) (log_word words) chip chains
  have_log chip chains pairs log candidates found = record {
    file = record { pairs = pairs; expected = found.expected };
    few = found.few;
    right = found.right;
    there = found.of_stil reported are;
    logged = log;
    log_there = found.of_log reported are;
  }

  -- work that was asked for is that of words that can be answered
  answered : (done : Done) → IsAsked words files done → IsAnswerable words files
  answered (Respond values) (is, asked) = of_file (weaker (AreValues (vector_word words) (vector_word words) dash values) (λ raw held. record {
    is = inl is;
    kept = held.kept;
    respond = λ _. held.first_fits;
    pair = λ pair. absurd (respond_or_pair words is pair);
  }) asked)
  answered (Pair values) (is, asked) = of_file (weaker (AreValues (first_word words) (last_word words) (defect_word words) values) (λ raw held. record {
    is = inr (inl is);
    kept = held.kept;
    respond = λ respond. absurd (respond_or_pair words respond is);
    pair = λ _. record {
      first = held.first_fits;
      last = held.last_fits;
      defect = some_of _ (asked_network raw (defect_word words)) held.ends;
    };
  }) asked)
  answered (Defects names) (is, asked) = of_file (weaker (AreDefectNames names) (λ raw held. record {
    is = inr (inr (inl is));
    kept = held.0;
    respond = λ respond. absurd (respond_or_defects words respond is);
    pair = λ pair. absurd (pair_or_defects words pair is);
  }) asked)
  answered (Matrix matrix) (is, asked) = of_file (weaker (IsSoundMatrix matrix) (λ raw held. record {
    is = inr (inr (inr is));
    kept = held.0;
    respond = λ respond. absurd (respond_or_matrix words respond is);
    pair = λ pair. absurd (pair_or_matrix words pair is);
  }) asked)
  answered (Check chip chains) (is, (all, held)) = of_chip (inl is) chip (chains, all) held (λ also same one. check_own words reported also is)
  answered (Flatten chip net) (is, (traced, held)) = of_chip (inr (inl is)) chip traced.traced traced.of_files (λ also same one.
      flatten_own words reported also is (fits_defect words chip also same one held.given held.asked))
  answered (Simulate chip ends) (is, (traced, held)) = of_chip (inr (inr (inl is))) chip traced.traced traced.of_files (λ also same one.
      simulate_own words reported also is (fits_simulate words chip also same one held.first_fits held.last_fits held.given held.asked))
  answered (Atpg chip chains pairs aims verdicts) (is, (all, (held, tests))) =
      of_chip (inr (inr (inr (inl is)))) chip (chains, all) held (λ also same one. atpg_own words reported also is)
  answered (Replay chip ends) (is, (traced, held)) = of_chip (inr (inr (inr (inr (inl is))))) chip traced.traced traced.of_files (λ also same one.
      replay_own words reported also is (fits_replay chip also same one ends.items (reported (order_word words)) refl (held reported are)))
  answered (Grade chip chains pairs grades) (is, (all, (held, graded))) = of_chip (inr (inr (inr (inr (inr (inl is)))))) chip (chains, all) held
      (λ also same one. grade_own words reported also is (fits_grade words reported chip also same chains all
      (lists chip chains pairs graded.few (reported (stil_word words)) refl (graded.of_file reported are))))
  answered (Diagnose chip chains pairs log candidates line) (is, (all, (held, (found, text)))) =
      of_chip (inr (inr (inr (inr (inr (inr (inl is))))))) chip (chains, all) held
      (λ also same one. diagnose_own words reported also is (fits_diagnose words reported chip also same chains all
      (have_log chip chains pairs log candidates found)))
  answered (Certify chip chains pairs aims certificate) (is, (all, (held, certified))) =
      of_chip (inr (inr (inr (inr (inr (inr (inr (inl is)))))))) chip (chains, all) held (λ also same one. certify_own words reported also is)
  answered (Verify chip chains pairs certificate answer line) (is, (all, (held, (found, text)))) =
      of_chip (inr (inr (inr (inr (inr (inr (inr (inr (inl is))))))))) chip (chains, all) held
      (λ also same one. verify_own words reported also is (fits_verify words reported chip also same chains all
      (record {
        file = record { pairs = pairs; expected = found.expected };
        few = found.few;
        right = found.right;
        there = found.of_stil reported are;
        certificate = certificate;
        one_each = found.one_each;
        cert_there = found.of_cert reported are;
      })))
  answered (Bridges chip chains bridges pairs aims verdicts) (is, (all, (held, judged))) =
      of_chip (inr (inr (inr (inr (inr (inr (inr (inr (inr is))))))))) chip (chains, all) held
      (λ also same one. bridges_own words reported also is
      (judged.judged.u, named_also chip also same (instance_word words) judged.judged.u judged.judged.named))
  answered (Make chip pairs aims verdicts) (is, asked) = inl (inr (inr is))
  answered Help is = inl (inl is)
  answered Version is = inl (inr (inl is))

-- a cause is reported
pub reported_cause : (words : List (List ℕ)) (files : Files) (before after : Outside) (end : Finished) (fault : Fault)
    → ReportsFiles words files before → Ends words before after end → IsInputFault fault → IsCause words before after fault
    → IsSomeAnd end.fault (λ reported. IsCallFault reported ⊎ IsSame reported fault)
reported_cause words files before after end fault reports ends is cause = by end.fault refl ends.cause
  where
    is_reported : (outside : Option Files) → before.files ≡ outside → IsSomeAnd outside (λ reported. (name : List ℕ) → IsInputFile words name → reported name ≡ files name)
        → (reported : Files) × (before.files ≡ Some reported)
    is_reported None are reports = absurd reports
    is_reported (Some reported) are reports = (reported, are)

    by_done : (done : Option Done) → IsSome done → IfSome done (IsAsked words before.files) → ⊥
    by_done None some asked = true≢false (sym some)
    by_done (Some done) some asked =
        let found = is_reported before.files refl reports in
        no_cause words before after fault (answered words before.files found.0 found.1 done asked) is cause

    by : (reported : Option Fault) → end.fault ≡ reported → IfSome reported (IsCause words before after)
        → IsSomeAnd reported (λ reported. IsCallFault reported ⊎ IsSame reported fault)
    by None none reported =
        let zero : end.status ≡ 0 = ends.answer.status ∙ ap status_reported none in
        absurd (by_done end.done (ends.answer.done.1 (inl zero)) ends.asked)
    by (Some other) some reported = elim (kind_of_fault other) [
      | inl call ↦ inl call
      | inr (inl input) ↦ inr (one_cause words files before after before after other fault reports reports input is reported cause)
      | inr (inr many) ↦ absurd (no_pairs words files before after before after other fault reports reports many is reported cause)
    ]
