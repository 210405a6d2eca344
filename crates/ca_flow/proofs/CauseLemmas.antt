-- How the causes of a command follow from those of its stages.
use Rattle.std.proofs.Common.{ℕ, ◌≡◌, ◌≢◌, ◌⊎◌, ◌∙◌, inl, inr, refl, sym, ap, arith, List, length, Option, Some, None}
use Rattle.std.proofs.Common.{Result, Ok, Err, Bool, true, false, subst}
use Rattle.std.proofs.lemmas.Option.{same_Some}
use Rattle.std.specs.Prelude.{Vec, if◌then◌else◌, IfOk, IfErr}
use Rattle.std.specs.declared.alloc.Global.{Global}
use Rattle.std.specs.Str.{bytes_eq}
use Rattle.ca_store.specs.Store.{Files}
use Rattle.ca_matrix.specs.Matrix.{Entries}
use Rattle.ca_fault.specs.declared.fault.Fault.{Fault}
use Rattle.ca_fault.specs.declared.fault.Fault.TheVariants.{StoreFailed, SinkFailed, NoMemory}
use Rattle.ca_load.specs.Causes.{IsStrengthsCause, IsLibraryCause, IsScanCause}
use Rattle.ca_words.specs.Words.{cell_files, cell_word, vector_word, first_word, last_word, defect_word}
use Rattle.ca_words.specs.Words.{scan_word, dash, file_called}
use Rattle.ca_words.specs.Words.{chip_files, instance_word, chip_defect_word, flat_out_word, chip_first_word}
use Rattle.ca_words.specs.Words.{chip_last_word}
use Rattle.ca_words.specs.Words.{stil_word, report_word, candidates_word, cert_word, order_word}
use Rattle.ca_words.specs.Words.{bridges_stil_word, bridges_report_word, IsBridges}
use Rattle.ca_words.specs.Words.{IsOther, IsMatrix, IsFlatten, IsAtpg, IsGrade, IsDiagnose, IsCertify, HasOut}
use Rattle.ca_on_cell.specs.Cells.{OfCell}
use Rattle.ca_load.specs.Files.{OfFile}
use Rattle.ca_linked.specs.Linked.{LinkedChip}
use Rattle.ca_scan.specs.ChainFault.{AreAllChains}
use Rattle.ca_load.specs.declared.loading.FileNames.{FileNames}
use Rattle.ca_load.specs.Texts.{CellFiles, IsCellFile, cells_of, InputFiles, names_of}
use Rattle.ca_load.specs.Causes.{IsLoadCause}
use Rattle.ca_flow.specs.declared.finished.Done.TheVariants.{Defects, Matrix, Check, Flatten, Simulate, Atpg}
use Rattle.ca_flow.specs.declared.finished.Done.TheVariants.{Replay, Grade, Make}
use Rattle.ca_simulate.specs.declared.simulation.OutputEnds.{OutputEnds}
use Rattle.ca_net.specs.Circuit.{Circuit}
use Rattle.ca_words.specs.declared.words.CellWords.{CellWords}
use Rattle.ca_words.specs.declared.words.MatrixWords.{MatrixWords}
use Rattle.ca_words.specs.declared.words.FlattenWords.{FlattenWords}
use Rattle.ca_words.specs.declared.words.SimulateWords.{SimulateWords}
use Rattle.ca_words.specs.declared.words.AtpgWords.{AtpgWords}
use Rattle.ca_words.specs.declared.words.ReplayWords.{ReplayWords}
use Rattle.ca_words.specs.declared.words.GradeWords.{GradeWords}
use Rattle.ca_grade.specs.declared.grade.Grade as grade
use Rattle.ca_chip_grade.specs.Texts.{grades_text}
use Rattle.ca_patterns.specs.Patterns.{IsLoadedCause}
use Rattle.ca_grading.specs.Grading.{AreGradesByFile}
use Rattle.ca_net.specs.declared.trit.Trit.{Trit}
use Rattle.ca_on_chip.specs.declared.replays.TheConstants.{MAX_ORDER}
use Rattle.ca_on_chip.specs.Replay.{AreRunEndsOf, IsRunCause}
use Rattle.ca_flow.specs.declared.work.OutFile.{OutFile}
use Rattle.ca_credit.specs.declared.verdict.Verdict.{Verdict}
use Rattle.ca_credit.specs.Good.{IsGood}
use Rattle.ca_engine.specs.ChipTask.{task_of}
use Rattle.ca_atpg.specs.Atpg.{IsStil, report_of}
use Rattle.ca_flow.specs.code.Work.{IsOutFile, HasFiles}
use Rattle.ca_words.specs.declared.words.Command.{Command}
use Rattle.ca_words.specs.declared.words.Command.TheVariants as command
use Rattle.ca_words.specs.Command.{IsSpelledDefects, IsSpelledMatrix, IsSpelledCheck, IsSpelledFlatten}
use Rattle.ca_words.specs.Command.{IsSpelledSimulate, IsSpelledAtpg, IsSpelledReplay, IsSpelledGrade}
use Rattle.ca_words.specs.Command.{IsSpelledMake, IsSpelled}
use Rattle.ca_words.specs.code.Command.{IsWhole}
use Rattle.ca_generating.specs.declared.making.TheConstants.{MAKE_BUDGET}
use Rattle.ca_generating.specs.Making.{IsMadeChip, IsMakeStage}
use Rattle.ca_on_chip.specs.OnChip.{IsChipOfFiles, IsTracedChipOf, IsFlatOf, AreEndsOf, IsFlatCause}
use Rattle.ca_on_chip.specs.OnChip.{IsEndsCause}
use Rattle.ca_on_chip.specs.OnChip.{IsTestsCause, IsPairsFault}
use Rattle.ca_on_cell.specs.Defects.{AreDefectNames, IsSoundMatrix}
use Rattle.ca_flow.specs.Ends.{IsAsked}
use Rattle.ca_on_cell.specs.Causes.{IsCellCause, IsValueCause}
use Rattle.ca_flow.specs.Fault.{IsOwnCause, IsWorkCause}
use Rattle.ca_words.proofs.WordLemmas.{no_chip}

-- a file that could not be read is the cell netlist, or the strength table under which it is read
at_table_stage : (name : Option (List ℕ)) (typed : List ℕ) (files : Option Files) (before after : ℕ)
    → IsStrengthsCause name files before after (StoreFailed typed) → name ≡ Some typed
at_table_stage None typed files before after cause = absurd cause
at_table_stage (Some name) typed files before after (inl read) = ap Some (sym read.0)
at_table_stage (Some name) typed files before after (inr text) = absurd text

store_is_memory : (typed : List ℕ) → StoreFailed typed ≡ NoMemory → ⊥
store_is_memory typed same = cc

at_library_stage : (names : CellFiles) (typed : List ℕ) (files : Option Files) (before after : ℕ)
    → IsLibraryCause names files before after (StoreFailed typed) → IsCellFile names typed
at_library_stage names typed files before after (inl memory) = absurd (store_is_memory typed memory)
at_library_stage names typed files before after (inr (inl table)) = inl (at_table_stage names.table typed files before after table)
at_library_stage names typed files before after (inr (inr (inl (has, read)))) = inr read.0
at_library_stage names typed files before after (inr (inr (inr text))) = absurd text

at_cell_stage : (names : CellFiles) (word typed : List ℕ) (files : Option Files) (before after : ℕ)
    → IsCellCause names word files before after (StoreFailed typed) → IsCellFile names typed
at_cell_stage names word typed files before after (inl library) = at_library_stage names typed files before after library
at_cell_stage names word typed files before after (inr other) = absurd other

at_value_stage : (names : CellFiles) (word first last defect typed : List ℕ) (files : Option Files) (before after : ℕ)
    → IsValueCause names word first last defect files before after (StoreFailed typed) → IsCellFile names typed
at_value_stage names word first last defect typed files before after (inl cell) = at_cell_stage names word typed files before after cell
at_value_stage names word first last defect typed files before after (inr own) = absurd own

-- the name of a file of a command on a chip that could not be read is one of those
at_scan_stage : (scan : Option (List ℕ)) (typed : List ℕ) (files : Option Files) (before after : ℕ)
    → IsScanCause scan files before after (StoreFailed typed) → scan ≡ Some typed
at_scan_stage None typed files before after cause = absurd cause
at_scan_stage (Some name) typed files before after (inl read) = ap Some (sym read.0)
at_scan_stage (Some name) typed files before after (inr text) = absurd text

at_load_stage : (names : InputFiles) (typed : List ℕ) (files : Option Files) (before after : ℕ)
    → IsLoadCause names files before after (StoreFailed typed)
    → IsCellFile names.cells typed ⊎ ((typed ≡ names.netlist) ⊎ (names.scan ≡ Some typed))
at_load_stage names typed files before after (inl (inl library)) = inl (at_library_stage names.cells typed files before after library)
at_load_stage names typed files before after (inl (inr (inl (has, inl read)))) = inr (inl read.0)
at_load_stage names typed files before after (inl (inr (inl (has, inr text)))) = absurd text
at_load_stage names typed files before after (inl (inr (inr (has, (too, cause))))) =
    inr (inr (at_scan_stage names.scan typed files before after cause))
at_load_stage names typed files before after (inr (is, held)) = absurd is

none_is_some : {A : Type 0} {it : A} → None ≡ Some it → ⊥
none_is_some same = cc

-- a file that a word names has the word as its name
called_is : (word typed : List ℕ) → file_called word ≡ Some typed → word ≡ typed
called_is word typed is = by (bytes_eq word dash) is
  where
    by : (none : Bool) → (if none then None else Some word) ≡ Some typed → word ≡ typed
    by true is = absurd (none_is_some is)
    by false is = same_Some word typed is

module _ (words : List (List ℕ)) (typed : List ℕ) (files : Option Files) (before after : ℕ) where
  -- a file that could not be read is not the one that `matrix` writes
  matrix_reads : IsMatrix words → IsWorkCause words files before after (StoreFailed typed) → IsCellFile (cell_files words) typed
  matrix_reads matrix (inl (is, cause)) =
      at_value_stage (cell_files words) (cell_word words) (vector_word words) (vector_word words) dash typed files before after cause
  matrix_reads matrix (inr (inl (is, cause))) =
      at_value_stage (cell_files words) (cell_word words) (first_word words) (last_word words) (defect_word words) typed files before after cause
  matrix_reads matrix (inr (inr (inl (is, cause)))) =
      at_cell_stage (cell_files words) (cell_word words) typed files before after cause
  matrix_reads matrix (inr (inr (inr (inl (is, cause))))) =
      at_cell_stage (cell_files words) (cell_word words) typed files before after cause
  matrix_reads matrix (inr (inr (inr (inr (inl (is, cause)))))) =
      absurd (no_chip words (inr (inr (inr matrix))) is)
  matrix_reads matrix (inr (inr (inr (inr (inr (make, cause)))))) =
      let two = make.two in let four = matrix.four in absurd (omega (arith, two, four))

  -- nor the one that `flatten` writes
  flatten_reads : IsFlatten words → typed ≡ flat_out_word words
      → IsWorkCause words files before after (StoreFailed typed) → ⊥
  flatten_reads flatten named (inr (inr (inr (inr (inr (make, cause)))))) =
      let two = make.two in let seven = flatten.seven in omega (arith, two, seven)
  flatten_reads flatten named (inl (is, cause)) = no_chip words (inl is) (inr (inl flatten))
  flatten_reads flatten named (inr (inl (is, cause))) = no_chip words (inr (inl is)) (inr (inl flatten))
  flatten_reads flatten named (inr (inr (inl (is, cause)))) = no_chip words (inr (inr (inl is))) (inr (inl flatten))
  flatten_reads flatten named (inr (inr (inr (inl (is, cause))))) =
      no_chip words (inr (inr (inr is))) (inr (inl flatten))
  flatten_reads flatten named (inr (inr (inr (inr (inl (is, inl load)))))) =
      elim (at_load_stage (chip_files words) typed files before after load) [
        | inl (inl table) ↦ flatten.out.not_table (table ∙ ap Some named)
        | inl (inr same) ↦ flatten.out.not_cells (sym named ∙ same)
        | inr (inl same) ↦ flatten.out.not_netlist (sym named ∙ same)
        | inr (inr same) ↦ flatten.out.not_scan (sym named ∙ sym (called_is (scan_word words) typed same))
      ]
  flatten_reads flatten named (inr (inr (inr (inr (inl (is, inr (inl (own, (word, held))))))))) = word
  flatten_reads flatten named (inr (inr (inr (inr (inl (is, inr (inr (inl (own, (inl word, held)))))))))) = word
  flatten_reads flatten named (inr (inr (inr (inr (inl (is, inr (inr (inl (own, (inr word, held)))))))))) = word
  flatten_reads flatten named (inr (inr (inr (inr (inl (is, inr (inr (inr (inl (own, cause)))))))))) = cause.many.0
  flatten_reads flatten named (inr (inr (inr (inr (inl (is, inr (inr (inr (inr (inl (own, cause))))))))))) =
      let nine = own.nine in let seven = flatten.seven in omega (arith, nine, seven)
  flatten_reads flatten named (inr (inr (inr (inr (inl (is, inr (inr (inr (inr (inr (inl (own, cause)))))))))))) =
      let six = own.six in let seven = flatten.seven in omega (arith, six, seven)
  flatten_reads flatten named (inr (inr (inr (inr (inl (is, inr (inr (inr (inr (inr (inr (inl (own, cause))))))))))))) =
      omega (arith, ap length (sym flatten.command ∙ own.command))
  flatten_reads flatten named (inr (inr (inr (inr (inl (is, inr (inr (inr (inr (inr (inr (inr (inl (own, cause)))))))))))))) = cause.many.0
  flatten_reads flatten named (inr (inr (inr (inr (inl (is, inr (inr (inr (inr (inr (inr (inr (inr (inr (own, (word, held)))))))))))))))) = word
  flatten_reads flatten named (inr (inr (inr (inr (inl (is, inr (inr (inr (inr (inr (inr (inr (inr (inl (own, cause))))))))))))))) =
      let six = own.six in let seven = flatten.seven in omega (arith, six, seven)

  -- nor one of those that `atpg` writes
  atpg_reads : IsAtpg words → IsOther words typed
      → IsWorkCause words files before after (StoreFailed typed) → ⊥
  atpg_reads atpg other (inr (inr (inr (inr (inr (make, cause)))))) =
      let two = make.two in let seven = atpg.seven in omega (arith, two, seven)
  atpg_reads atpg other (inl (is, cause)) = no_chip words (inl is) (inr (inr (inr (inl atpg))))
  atpg_reads atpg other (inr (inl (is, cause))) = no_chip words (inr (inl is)) (inr (inr (inr (inl atpg))))
  atpg_reads atpg other (inr (inr (inl (is, cause)))) = no_chip words (inr (inr (inl is))) (inr (inr (inr (inl atpg))))
  atpg_reads atpg other (inr (inr (inr (inl (is, cause))))) =
      no_chip words (inr (inr (inr is))) (inr (inr (inr (inl atpg))))
  atpg_reads atpg other (inr (inr (inr (inr (inl (is, inl load)))))) =
      elim (at_load_stage (chip_files words) typed files before after load) [
        | inl (inl table) ↦ other.not_table table
        | inl (inr same) ↦ other.not_cells same
        | inr (inl same) ↦ other.not_netlist same
        | inr (inr same) ↦ other.not_scan (sym (called_is (scan_word words) typed same))
      ]
  atpg_reads atpg other (inr (inr (inr (inr (inl (is, inr (inl (own, (word, held))))))))) = word
  atpg_reads atpg other (inr (inr (inr (inr (inl (is, inr (inr (inl (own, (inl word, held)))))))))) = word
  atpg_reads atpg other (inr (inr (inr (inr (inl (is, inr (inr (inl (own, (inr word, held)))))))))) = word
  atpg_reads atpg other (inr (inr (inr (inr (inl (is, inr (inr (inr (inl (own, cause)))))))))) = cause.many.0
  atpg_reads atpg other (inr (inr (inr (inr (inl (is, inr (inr (inr (inr (inl (own, cause))))))))))) =
      let nine = own.nine in let seven = atpg.seven in omega (arith, nine, seven)
  atpg_reads atpg other (inr (inr (inr (inr (inl (is, inr (inr (inr (inr (inr (inl (own, cause)))))))))))) =
      let six = own.six in let seven = atpg.seven in omega (arith, six, seven)
  atpg_reads atpg other (inr (inr (inr (inr (inl (is, inr (inr (inr (inr (inr (inr (inl (own, cause))))))))))))) =
      omega (arith, ap length (sym atpg.command ∙ own.command))
  atpg_reads atpg other (inr (inr (inr (inr (inl (is, inr (inr (inr (inr (inr (inr (inr (inl (own, cause)))))))))))))) = cause.many.0
  atpg_reads atpg other (inr (inr (inr (inr (inl (is, inr (inr (inr (inr (inr (inr (inr (inr (inr (own, (word, held)))))))))))))))) = word
  atpg_reads atpg other (inr (inr (inr (inr (inl (is, inr (inr (inr (inr (inr (inr (inr (inr (inl (own, cause))))))))))))))) =
      let six = own.six in let seven = atpg.seven in omega (arith, six, seven)

  -- nor the one that `grade` writes
  grade_reads : IsGrade words → typed ≡ report_word words → IsWorkCause words files before after (StoreFailed typed) → ⊥
  grade_reads graded named (inr (inr (inr (inr (inr (make, cause)))))) =
      let two = make.two in let six = graded.six in omega (arith, two, six)
  grade_reads graded named (inl (is, cause)) = no_chip words (inl is) (inr (inr (inr (inr (inr (inl graded))))))
  grade_reads graded named (inr (inl (is, cause))) = no_chip words (inr (inl is)) (inr (inr (inr (inr (inr (inl graded))))))
  grade_reads graded named (inr (inr (inl (is, cause)))) = no_chip words (inr (inr (inl is))) (inr (inr (inr (inr (inr (inl graded))))))
  grade_reads graded named (inr (inr (inr (inl (is, cause))))) =
      no_chip words (inr (inr (inr is))) (inr (inr (inr (inr (inr (inl graded))))))
  grade_reads graded named (inr (inr (inr (inr (inl (is, inl load)))))) =
      elim (at_load_stage (chip_files words) typed files before after load) [
        | inl (inl table) ↦ graded.report.not_table (table ∙ ap Some named)
        | inl (inr same) ↦ graded.report.not_cells (sym named ∙ same)
        | inr (inl same) ↦ graded.report.not_netlist (sym named ∙ same)
        | inr (inr same) ↦ graded.report.not_scan (sym named ∙ sym (called_is (scan_word words) typed same))
      ]
  grade_reads graded named (inr (inr (inr (inr (inl (is, inr (inl (own, (word, held))))))))) = word
  grade_reads graded named (inr (inr (inr (inr (inl (is, inr (inr (inl (own, (inl word, held)))))))))) = word
  grade_reads graded named (inr (inr (inr (inr (inl (is, inr (inr (inl (own, (inr word, held)))))))))) = word
  grade_reads graded named (inr (inr (inr (inr (inl (is, inr (inr (inr (inl (own, cause)))))))))) = cause.many.0
  grade_reads graded named (inr (inr (inr (inr (inl (is, inr (inr (inr (inr (inl (own, cause))))))))))) =
      let nine = own.nine in let six = graded.six in omega (arith, nine, six)
  grade_reads graded named (inr (inr (inr (inr (inl (is, inr (inr (inr (inr (inr (inl (own, inl (held, read))))))))))))) =
      graded.others (sym named ∙ read.0)
  grade_reads graded named (inr (inr (inr (inr (inl (is, inr (inr (inr (inr (inr (inl (own, inr (word, held))))))))))))) = word
  grade_reads graded named (inr (inr (inr (inr (inl (is, inr (inr (inr (inr (inr (inr (inl (own, cause))))))))))))) =
      let seven = own.seven in let six = graded.six in omega (arith, seven, six)
  grade_reads graded named (inr (inr (inr (inr (inl (is, inr (inr (inr (inr (inr (inr (inr (inl (own, cause)))))))))))))) = cause.many.0
  grade_reads graded named (inr (inr (inr (inr (inl (is, inr (inr (inr (inr (inr (inr (inr (inr (inr (own, (word, held)))))))))))))))) = word
  grade_reads graded named (inr (inr (inr (inr (inl (is, inr (inr (inr (inr (inr (inr (inr (inr (inl (own, cause))))))))))))))) =
      omega (arith, ap length (sym graded.command ∙ own.command))

  -- nor the one that `diagnose` writes
  diagnose_reads : IsDiagnose words → typed ≡ candidates_word words → IsWorkCause words files before after (StoreFailed typed) → ⊥
  diagnose_reads asked named (inr (inr (inr (inr (inr (make, cause)))))) =
      let two = make.two in let seven = asked.seven in omega (arith, two, seven)
  diagnose_reads asked named (inl (is, cause)) = no_chip words (inl is) (inr (inr (inr (inr (inr (inr (inl asked)))))))
  diagnose_reads asked named (inr (inl (is, cause))) = no_chip words (inr (inl is)) (inr (inr (inr (inr (inr (inr (inl asked)))))))
  diagnose_reads asked named (inr (inr (inl (is, cause)))) = no_chip words (inr (inr (inl is))) (inr (inr (inr (inr (inr (inr (inl asked)))))))
  diagnose_reads asked named (inr (inr (inr (inl (is, cause))))) =
      no_chip words (inr (inr (inr is))) (inr (inr (inr (inr (inr (inr (inl asked)))))))
  diagnose_reads asked named (inr (inr (inr (inr (inl (is, inl load)))))) =
      elim (at_load_stage (chip_files words) typed files before after load) [
        | inl (inl table) ↦ asked.out.not_table (table ∙ ap Some named)
        | inl (inr same) ↦ asked.out.not_cells (sym named ∙ same)
        | inr (inl same) ↦ asked.out.not_netlist (sym named ∙ same)
        | inr (inr same) ↦ asked.out.not_scan (sym named ∙ sym (called_is (scan_word words) typed same))
      ]
  diagnose_reads asked named (inr (inr (inr (inr (inl (is, inr (inl (own, (word, held))))))))) = word
  diagnose_reads asked named (inr (inr (inr (inr (inl (is, inr (inr (inl (own, (inl word, held)))))))))) = word
  diagnose_reads asked named (inr (inr (inr (inr (inl (is, inr (inr (inl (own, (inr word, held)))))))))) = word
  diagnose_reads asked named (inr (inr (inr (inr (inl (is, inr (inr (inr (inl (own, cause)))))))))) = cause.many.0
  diagnose_reads asked named (inr (inr (inr (inr (inl (is, inr (inr (inr (inr (inl (own, cause))))))))))) =
      let nine = own.nine in let seven = asked.seven in omega (arith, nine, seven)
  diagnose_reads asked named (inr (inr (inr (inr (inl (is, inr (inr (inr (inr (inr (inl (own, cause)))))))))))) =
      let six = own.six in let seven = asked.seven in omega (arith, six, seven)
  diagnose_reads asked named (inr (inr (inr (inr (inl (is, inr (inr (inr (inr (inr (inr (inl (own, inl (inl (held, read))))))))))))))) =
      asked.not_stil (sym named ∙ read.0)
  diagnose_reads asked named (inr (inr (inr (inr (inl (is, inr (inr (inr (inr (inr (inr (inl (own, inl (inr (word, held))))))))))))))) = word
  diagnose_reads asked named (inr (inr (inr (inr (inl (is, inr (inr (inr (inr (inr (inr (inl (own, inr (inl (held, read))))))))))))))) =
      asked.not_log (sym named ∙ read.0)
  diagnose_reads asked named (inr (inr (inr (inr (inl (is, inr (inr (inr (inr (inr (inr (inl (own, inr (inr (word, held))))))))))))))) = word
  diagnose_reads asked named (inr (inr (inr (inr (inl (is, inr (inr (inr (inr (inr (inr (inr (inl (own, cause)))))))))))))) = cause.many.0
  diagnose_reads asked named (inr (inr (inr (inr (inl (is, inr (inr (inr (inr (inr (inr (inr (inr (inr (own, (word, held)))))))))))))))) = word
  diagnose_reads asked named (inr (inr (inr (inr (inl (is, inr (inr (inr (inr (inr (inr (inr (inr (inl (own, cause))))))))))))))) =
      let six = own.six in let seven = asked.seven in omega (arith, six, seven)

  -- nor one of those that `certify` writes
  certify_reads : IsCertify words → IsOther words typed
      → IsWorkCause words files before after (StoreFailed typed) → ⊥
  certify_reads certified other (inr (inr (inr (inr (inr (make, cause)))))) =
      let two = make.two in let seven = certified.seven in omega (arith, two, seven)
  certify_reads certified other (inl (is, cause)) = no_chip words (inl is) (inr (inr (inr (inr (inr (inr (inr (inl certified))))))))
  certify_reads certified other (inr (inl (is, cause))) = no_chip words (inr (inl is)) (inr (inr (inr (inr (inr (inr (inr (inl certified))))))))
  certify_reads certified other (inr (inr (inl (is, cause)))) = no_chip words (inr (inr (inl is))) (inr (inr (inr (inr (inr (inr (inr (inl certified))))))))
  certify_reads certified other (inr (inr (inr (inl (is, cause))))) =
      no_chip words (inr (inr (inr is))) (inr (inr (inr (inr (inr (inr (inr (inl certified))))))))
  certify_reads certified other (inr (inr (inr (inr (inl (is, inl load)))))) =
      elim (at_load_stage (chip_files words) typed files before after load) [
        | inl (inl table) ↦ other.not_table table
        | inl (inr same) ↦ other.not_cells same
        | inr (inl same) ↦ other.not_netlist same
        | inr (inr same) ↦ other.not_scan (sym (called_is (scan_word words) typed same))
      ]
  certify_reads certified other (inr (inr (inr (inr (inl (is, inr (inl (own, (word, held))))))))) = word
  certify_reads certified other (inr (inr (inr (inr (inl (is, inr (inr (inl (own, (inl word, held)))))))))) = word
  certify_reads certified other (inr (inr (inr (inr (inl (is, inr (inr (inl (own, (inr word, held)))))))))) = word
  certify_reads certified other (inr (inr (inr (inr (inl (is, inr (inr (inr (inl (own, cause)))))))))) = cause.many.0
  certify_reads certified other (inr (inr (inr (inr (inl (is, inr (inr (inr (inr (inl (own, cause))))))))))) =
      let nine = own.nine in let seven = certified.seven in omega (arith, nine, seven)
  certify_reads certified other (inr (inr (inr (inr (inl (is, inr (inr (inr (inr (inr (inl (own, cause)))))))))))) =
      let six = own.six in let seven = certified.seven in omega (arith, six, seven)
  certify_reads certified other (inr (inr (inr (inr (inl (is, inr (inr (inr (inr (inr (inr (inl (own, cause))))))))))))) =
      omega (arith, ap length (sym certified.command ∙ own.command))
  certify_reads certified other (inr (inr (inr (inr (inl (is, inr (inr (inr (inr (inr (inr (inr (inl (own, cause)))))))))))))) = cause.many.0
  certify_reads certified other (inr (inr (inr (inr (inl (is, inr (inr (inr (inr (inr (inr (inr (inr (inr (own, (word, held)))))))))))))))) = word
  certify_reads certified other (inr (inr (inr (inr (inl (is, inr (inr (inr (inr (inr (inr (inr (inr (inl (own, cause))))))))))))))) =
      let six = own.six in let seven = certified.seven in omega (arith, six, seven)

  -- nor one of those that `bridges` writes
  bridges_reads : IsBridges words → IsOther words typed
      → IsWorkCause words files before after (StoreFailed typed) → ⊥
  bridges_reads judged other (inr (inr (inr (inr (inr (make, cause)))))) =
      let two = make.two in let eight = judged.eight in omega (arith, two, eight)
  bridges_reads judged other (inl (is, cause)) = no_chip words (inl is) (inr (inr (inr (inr (inr (inr (inr (inr (inr judged)))))))))
  bridges_reads judged other (inr (inl (is, cause))) = no_chip words (inr (inl is)) (inr (inr (inr (inr (inr (inr (inr (inr (inr judged)))))))))
  bridges_reads judged other (inr (inr (inl (is, cause)))) = no_chip words (inr (inr (inl is))) (inr (inr (inr (inr (inr (inr (inr (inr (inr judged)))))))))
  bridges_reads judged other (inr (inr (inr (inl (is, cause))))) =
      no_chip words (inr (inr (inr is))) (inr (inr (inr (inr (inr (inr (inr (inr (inr judged)))))))))
  bridges_reads judged other (inr (inr (inr (inr (inl (is, inl load)))))) =
      elim (at_load_stage (chip_files words) typed files before after load) [
        | inl (inl table) ↦ other.not_table table
        | inl (inr same) ↦ other.not_cells same
        | inr (inl same) ↦ other.not_netlist same
        | inr (inr same) ↦ other.not_scan (sym (called_is (scan_word words) typed same))
      ]
  bridges_reads judged other (inr (inr (inr (inr (inl (is, inr (inl (own, (word, held))))))))) = word
  bridges_reads judged other (inr (inr (inr (inr (inl (is, inr (inr (inl (own, (inl word, held)))))))))) = word
  bridges_reads judged other (inr (inr (inr (inr (inl (is, inr (inr (inl (own, (inr word, held)))))))))) = word
  bridges_reads judged other (inr (inr (inr (inr (inl (is, inr (inr (inr (inl (own, cause)))))))))) = cause.many.0
  bridges_reads judged other (inr (inr (inr (inr (inl (is, inr (inr (inr (inr (inl (own, cause))))))))))) =
      let nine = own.nine in let eight = judged.eight in omega (arith, nine, eight)
  bridges_reads judged other (inr (inr (inr (inr (inl (is, inr (inr (inr (inr (inr (inl (own, cause)))))))))))) =
      let six = own.six in let eight = judged.eight in omega (arith, six, eight)
  bridges_reads judged other (inr (inr (inr (inr (inl (is, inr (inr (inr (inr (inr (inr (inl (own, cause))))))))))))) =
      let seven = own.seven in let eight = judged.eight in omega (arith, seven, eight)
  bridges_reads judged other (inr (inr (inr (inr (inl (is, inr (inr (inr (inr (inr (inr (inr (inl (own, cause)))))))))))))) = cause.many.0
  bridges_reads judged other (inr (inr (inr (inr (inl (is, inr (inr (inr (inr (inr (inr (inr (inr (inr (own, (word, held)))))))))))))))) = word
  bridges_reads judged other (inr (inr (inr (inr (inl (is, inr (inr (inr (inr (inr (inr (inr (inr (inl (own, cause))))))))))))))) =
      let six = own.six in let eight = judged.eight in omega (arith, six, eight)

  named_other : (name : List ℕ) → typed ≡ name → IsOther words name
      → IsOther words typed
  named_other name same is = subst (λ (word : List ℕ). IsOther words word) (sym same) is

  -- a file that could not be read is none that a command writes
  pub out_is_unread : HasOut words typed → IsWorkCause words files before after (StoreFailed typed) → ⊥
  out_is_unread (inl (matrix, named)) cause = elim (matrix_reads matrix cause) [
    | inl table ↦ matrix.not_table (table ∙ ap Some named)
    | inr same ↦ matrix.others (sym named ∙ same)
  ]
  out_is_unread (inr (inl (flatten, named))) cause = flatten_reads flatten named cause
  out_is_unread (inr (inr (inr (inl (graded, named))))) cause = grade_reads graded named cause
  out_is_unread (inr (inr (inr (inr (inl (asked, named)))))) cause = diagnose_reads asked named cause
  out_is_unread (inr (inr (inr (inr (inr (inl (certified, inl named))))))) cause =
      certify_reads certified (named_other (stil_word words) named certified.stil) cause
  out_is_unread (inr (inr (inr (inr (inr (inr (judged, inl named))))))) cause =
      bridges_reads judged (named_other (bridges_stil_word words) named judged.stil) cause
  out_is_unread (inr (inr (inr (inr (inr (inr (judged, inr named))))))) cause =
      bridges_reads judged (named_other (bridges_report_word words) named judged.report) cause
  out_is_unread (inr (inr (inr (inr (inr (inl (certified, inr named))))))) cause =
      certify_reads certified (named_other (cert_word words) named certified.cert) cause
  out_is_unread (inr (inr (inl (atpg, inl named)))) cause = atpg_reads atpg (named_other (stil_word words) named atpg.stil) cause
  out_is_unread (inr (inr (inl (atpg, inr named)))) cause = atpg_reads atpg (named_other (report_word words) named atpg.report) cause

-- the names that the words of `defects` ask for
pub defects_asked : (words : List (List ℕ)) (request : CellWords) (files : Option Files) (names : List (List ℕ)) → IsSpelledDefects words request
    → OfCell files (cells_of request.files) request.cell.now (AreDefectNames names) → IsAsked words files (Defects names)
defects_asked words request files names spelled held = (
  spelled.is,
  subst (λ word. OfCell files (cell_files words) word (AreDefectNames names)) spelled.of.cell
      (subst (λ cells. OfCell files cells request.cell.now (AreDefectNames names)) spelled.of.files held),
)

-- the matrix that the words of `matrix` ask for
pub matrix_asked : (words : List (List ℕ)) (request : MatrixWords) (files : Option Files) (matrix : Entries) → IsSpelledMatrix words request
    → OfCell files (cells_of request.of.files) request.of.cell.now (IsSoundMatrix matrix) → IsAsked words files (Matrix matrix)
matrix_asked words request files matrix spelled held = (
  spelled.is,
  subst (λ word. OfCell files (cell_files words) word (IsSoundMatrix matrix)) spelled.of.cell
      (subst (λ cells. OfCell files cells request.of.cell.now (IsSoundMatrix matrix)) spelled.of.files held),
)

-- the chip that the words of `check` ask for
pub check_asked : (words : List (List ℕ)) (names : FileNames) (files : Option Files) (chip : LinkedChip) (chains : List (List ℕ))
    → IsSpelledCheck words names → AreAllChains chip chains
    → IsChipOfFiles files (names_of names) chip → IsAsked words files (Check chip chains)
check_asked words names files chip chains spelled all held =
    (spelled.is, (all, subst (λ asked. IsChipOfFiles files asked chip) spelled.files held))

-- why its files give none
pub check_cause : (words : List (List ℕ)) (names : FileNames) (files : Option Files) (before after : ℕ) (fault : Fault)
    → IsSpelledCheck words names → IsLoadCause (names_of names) files before after fault
    → IsWorkCause words files before after fault
check_cause words names files before after fault spelled cause = inr (inr (inr (inr (inl (
  inl spelled.is,
  inl (subst (λ asked. IsLoadCause asked files before after fault) spelled.files cause),
)))))

-- the network that the words of `flatten` ask for
pub flatten_asked : (words : List (List ℕ)) (request : FlattenWords) (files : Option Files) (chip : LinkedChip) (net : Circuit)
    → IsSpelledFlatten words request → IsTracedChipOf files (names_of request.of.files) chip
    → IsFlatOf request.of.instance.now request.of.defect.now chip net → IsAsked words files (Flatten chip net)
flatten_asked words request files chip net spelled held flat = (
  spelled.is,
  (
    subst (λ asked. IsTracedChipOf files asked chip) spelled.of.files held,
    rw (sym spelled.of.instance, sym spelled.of.defect) flat,
  ),
)

-- why they ask for none
pub flatten_cause : (words : List (List ℕ)) (request : FlattenWords) (files : Option Files) (before after : ℕ)
    (fault : Fault) → IsSpelledFlatten words request
    → IsFlatCause (names_of request.of.files) request.of.instance.now request.of.defect.now files before after fault
    → IsWorkCause words files before after fault
flatten_cause words request files before after fault spelled cause = inr (inr (inr (inr (inl (
  inr (inl spelled.is),
  by (rw (spelled.of.instance, spelled.of.defect) at at_files),
)))))
  where
    at_files : IsFlatCause (chip_files words) request.of.instance.now request.of.defect.now files before after fault
    at_files = subst (λ asked. IsFlatCause asked request.of.instance.now request.of.defect.now files before after fault)
        spelled.of.files cause

    by : IsFlatCause (chip_files words) (instance_word words) (chip_defect_word words) files before after fault
        → IsLoadCause (chip_files words) files before after fault ⊎ IsOwnCause words files before after fault
    by (inl load) = inl load
    by (inr own) = inr (inl (spelled.is, own))

-- the values that the words of `simulate` ask for
pub simulate_asked : (words : List (List ℕ)) (request : SimulateWords) (files : Option Files) (chip : LinkedChip) (ends : OutputEnds)
    → IsSpelledSimulate words request → IsTracedChipOf files (names_of request.of.files) chip
    → AreEndsOf request.of.instance.now request.of.defect.now request.first.now request.last.now chip
    ends.good.items ends.faulty.items → IsAsked words files (Simulate chip ends)
simulate_asked words request files chip ends spelled held are = (
  spelled.is,
  (
    subst (λ asked. IsTracedChipOf files asked chip) spelled.of.files held,
    rw (sym spelled.of.instance, sym spelled.of.defect, sym spelled.first, sym spelled.last) are,
  ),
)

-- why they ask for none
pub simulate_cause : (words : List (List ℕ)) (request : SimulateWords) (files : Option Files) (before after : ℕ)
    (fault : Fault) → IsSpelledSimulate words request
    → IsEndsCause (names_of request.of.files) request.of.instance.now request.of.defect.now
    request.first.now request.last.now files before after fault → IsWorkCause words files before after fault
simulate_cause words request files before after fault spelled cause = inr (inr (inr (inr (inl (
  inr (inr (inl spelled.is)),
  by (rw (spelled.of.instance, spelled.of.defect, spelled.first, spelled.last) at at_files),
)))))
  where
    at_files : IsEndsCause (chip_files words) request.of.instance.now request.of.defect.now request.first.now
        request.last.now files before after fault
    at_files =
        subst (λ asked. IsEndsCause asked request.of.instance.now request.of.defect.now request.first.now request.last.now files before after fault)
        spelled.of.files cause

    by : IsEndsCause (chip_files words) (instance_word words) (chip_defect_word words) (chip_first_word words)
        (chip_last_word words) files before after fault
        → IsLoadCause (chip_files words) files before after fault ⊎ IsOwnCause words files before after fault
    by (inl load) = inl load
    by (inr own) = inr (inr (inl (spelled.is, own)))

-- no file of a command on a chip is refused because of the output
no_scan_sink : (scan : Option (List ℕ)) (files : Option Files) (before after : ℕ)
    → IsScanCause scan files before after SinkFailed → ⊥
no_scan_sink None files before after cause = cause
no_scan_sink (Some name) files before after (inl read) = read
no_scan_sink (Some name) files before after (inr text) = text

no_strengths_sink : (table : Option (List ℕ)) (files : Option Files) (before after : ℕ)
    → IsStrengthsCause table files before after SinkFailed → ⊥
no_strengths_sink None files before after cause = cause
no_strengths_sink (Some name) files before after (inl read) = read
no_strengths_sink (Some name) files before after (inr text) = text

no_library_sink : (names : CellFiles) (files : Option Files) (before after : ℕ)
    → IsLibraryCause names files before after SinkFailed → ⊥
no_library_sink names files before after (inl memory) = let both : SinkFailed ≡ NoMemory = memory in cc
no_library_sink names files before after (inr (inl table)) = no_strengths_sink names.table files before after table
no_library_sink names files before after (inr (inr (inl (has, read)))) = read
no_library_sink names files before after (inr (inr (inr text))) = text

-- nor are those of a command on one cell
pub no_cell_sink : (names : CellFiles) (word : List ℕ) (files : Option Files) (before after : ℕ) (fault : Fault)
    → IsCellCause names word files before after fault → fault ≢ SinkFailed
no_cell_sink names word files before after fault cause same = by (subst (IsCellCause names word files before after) same cause)
  where
    by : IsCellCause names word files before after SinkFailed → ⊥
    by (inl library) = no_library_sink names files before after library
    by (inr named) = named

pub no_values_sink : (names : CellFiles) (word first last defect : List ℕ) (files : Option Files) (before after : ℕ) (fault : Fault)
    → IsValueCause names word first last defect files before after fault → fault ≢ SinkFailed
no_values_sink names word first last defect files before after fault cause same =
    by (subst (IsValueCause names word first last defect files before after) same cause)
  where
    by : IsValueCause names word first last defect files before after SinkFailed → ⊥
    by (inl cell) = no_cell_sink names word files before after SinkFailed cell refl
    by (inr own) = own

no_load_sink : (names : InputFiles) (files : Option Files) (before after : ℕ)
    → IsLoadCause names files before after SinkFailed → ⊥
no_load_sink names files before after (inl (inl library)) = no_library_sink names.cells files before after library
no_load_sink names files before after (inl (inr (inl (has, inl read)))) = read
no_load_sink names files before after (inl (inr (inl (has, inr text)))) = text
no_load_sink names files before after (inl (inr (inr (has, (too, cause))))) =
    no_scan_sink names.scan files before after cause
no_load_sink names files before after (inr (is, held)) = is

pub no_check_sink : (names : InputFiles) (files : Option Files) (before after : ℕ) (fault : Fault)
    → IsLoadCause names files before after fault → fault ≢ SinkFailed
no_check_sink names files before after fault cause same =
    no_load_sink names files before after (subst (IsLoadCause names files before after) same cause)

-- nor are the own words of `flatten`
pub no_flat_sink : (names : InputFiles) (instance defect : List ℕ) (files : Option Files) (before after : ℕ)
    (fault : Fault) → IsFlatCause names instance defect files before after fault → fault ≢ SinkFailed
no_flat_sink names instance defect files before after fault cause same =
    by (subst (IsFlatCause names instance defect files before after) same cause)
  where
    by : IsFlatCause names instance defect files before after SinkFailed → ⊥
    by (inl load) = no_load_sink names files before after load
    by (inr (word, held)) = word

-- nor those of `simulate`
pub no_ends_sink : (names : InputFiles) (instance defect first last : List ℕ) (files : Option Files)
    (before after : ℕ) (fault : Fault) → IsEndsCause names instance defect first last files before after fault
    → fault ≢ SinkFailed
no_ends_sink names instance defect first last files before after fault cause same =
    by (subst (IsEndsCause names instance defect first last files before after) same cause)
  where
    by : IsEndsCause names instance defect first last files before after SinkFailed → ⊥
    by (inl load) = no_load_sink names files before after load
    by (inr (inl word, held)) = word
    by (inr (inr word, held)) = word

-- nor is the work of `atpg`
pub no_tests_sink : (names : InputFiles) (budget : ℕ) (files : Option Files) (before after : ℕ) (fault : Fault)
    → IsTestsCause names budget files before after fault → fault ≢ SinkFailed
no_tests_sink names budget files before after fault cause same =
    by (subst (IsTestsCause names budget files before after) same cause)
  where
    by : IsTestsCause names budget files before after SinkFailed → ⊥
    by (inl load) = no_load_sink names files before after load
    by (inr (is, held)) = is

-- the tests that the words of `atpg` ask for
pub atpg_asked : (words : List (List ℕ)) (request : AtpgWords) (files : Option Files) (chip : LinkedChip) (chains : List (List ℕ))
    (pairs : List (List Bool)) (aims : List ℕ) (verdicts : List Verdict) → IsSpelledAtpg words request → AreAllChains chip chains
    → IsChipOfFiles files (names_of request.files) chip → IsGood (task_of chip request.budget) pairs aims verdicts
    → IsAsked words files (Atpg chip chains pairs aims verdicts)
atpg_asked words request files chip chains pairs aims verdicts spelled all held good = (
  spelled.is,
  (
    all,
    (
      subst (λ asked. IsChipOfFiles files asked chip) spelled.files held,
      record { budget = request.budget; said = spelled.budget; good = good },
    ),
  ),
)

-- the files that they name
pub atpg_files : (words : List (List ℕ)) (request : AtpgWords) (chip : LinkedChip) (chains : List (List ℕ))
    (pairs : List (List Bool)) (aims : List ℕ) (verdicts : List Verdict) (stil : List ℕ) (first second : OutFile) → IsSpelledAtpg words request
    → IsStil chip chains pairs stil → IsOutFile request.stil.now stil first → IsOutFile request.report.now (report_of chip verdicts) second
    → HasFiles words (Atpg chip chains pairs aims verdicts) (Some first) (Some second)
atpg_files words request chip chains pairs aims verdicts stil first second spelled is first_is second_is = record {
  first_is = record {
    name_is = first_is.name_is ∙ spelled.stil;
    typed_is = first_is.typed_is ∙ spelled.stil;
    holds = subst (IsStil chip chains pairs) (sym first_is.bytes_are) is;
  };
  second_is = record {
    name_is = second_is.name_is ∙ spelled.report;
    typed_is = second_is.typed_is ∙ spelled.report;
    bytes_are = second_is.bytes_are;
  };
}

-- why they ask for none
pub atpg_cause : (words : List (List ℕ)) (request : AtpgWords) (files : Option Files) (before after : ℕ) (fault : Fault)
    → IsSpelledAtpg words request → IsTestsCause (names_of request.files) request.budget files before after fault
    → IsWorkCause words files before after fault
atpg_cause words request files before after fault spelled cause = inr (inr (inr (inr (inl (
  inr (inr (inr (inl spelled.is))),
  by (subst (λ asked. IsTestsCause asked request.budget files before after fault) spelled.files cause),
)))))
  where
    by : IsTestsCause (chip_files words) request.budget files before after fault
        → IsLoadCause (chip_files words) files before after fault ⊎ IsOwnCause words files before after fault
    by (inl load) = inl load
    by (inr many) = inr (inr (inr (inl (spelled.is, record { budget = request.budget; said = spelled.budget; many = many }))))

-- nor are the own words of `replay`
pub no_run_sink : (names : InputFiles) (instance defect first last order : List ℕ) (files : Option Files)
    (before after : ℕ) (fault : Fault) → IsRunCause names instance defect first last order files before after fault
    → fault ≢ SinkFailed
no_run_sink names instance defect first last order files before after fault cause same =
    by (subst (IsRunCause names instance defect first last order files before after) same cause)
  where
    by : IsRunCause names instance defect first last order files before after SinkFailed → ⊥
    by (inl load) = no_load_sink names files before after load
    by (inr (inl (inl word, held))) = word
    by (inr (inl (inr word, held))) = word
    by (inr (inr (held, read))) = read

-- the values that the words of `replay` ask for
pub replay_asked : (words : List (List ℕ)) (request : ReplayWords) (files : Option Files) (chip : LinkedChip) (ends : Vec Trit Global)
    → IsSpelledReplay words request → IsTracedChipOf files (names_of request.of.of.files) chip
    → OfFile files request.order.now MAX_ORDER (AreRunEndsOf request.of.of.instance.now request.of.of.defect.now
    request.of.first.now request.of.last.now chip ends.items) → IsAsked words files (Replay chip ends)
replay_asked words request files chip ends spelled held are = (
  spelled.is,
  (
    subst (λ asked. IsTracedChipOf files asked chip) spelled.of.files held,
    rw (sym spelled.of.instance, sym spelled.of.defect, sym spelled.first, sym spelled.last, sym spelled.order) are,
  ),
)

-- why they ask for none
pub replay_cause : (words : List (List ℕ)) (request : ReplayWords) (files : Option Files) (before after : ℕ)
    (fault : Fault) → IsSpelledReplay words request
    → IsRunCause (names_of request.of.of.files) request.of.of.instance.now request.of.of.defect.now
    request.of.first.now request.of.last.now request.order.now files before after fault → IsWorkCause words files before after fault
replay_cause words request files before after fault spelled cause = inr (inr (inr (inr (inl (
  inr (inr (inr (inr (inl spelled.is)))),
  by (rw (spelled.of.instance, spelled.of.defect, spelled.first, spelled.last, spelled.order) at at_files),
)))))
  where
    at_files : IsRunCause (chip_files words) request.of.of.instance.now request.of.of.defect.now request.of.first.now
        request.of.last.now request.order.now files before after fault
    at_files =
        subst (λ asked. IsRunCause asked request.of.of.instance.now request.of.of.defect.now request.of.first.now
        request.of.last.now request.order.now files before after fault) spelled.of.files cause

    by : IsRunCause (chip_files words) (instance_word words) (chip_defect_word words) (chip_first_word words)
        (chip_last_word words) (order_word words) files before after fault
        → IsLoadCause (chip_files words) files before after fault ⊎ IsOwnCause words files before after fault
    by (inl load) = inl load
    by (inr own) = inr (inr (inr (inr (inl (spelled.is, own)))))

-- nor is the work of `grade`
pub no_grade_sink : (names : InputFiles) (stil : List ℕ) (files : Option Files) (before after : ℕ) (fault : Fault)
    → IsLoadedCause names stil files before after fault → fault ≢ SinkFailed
no_grade_sink names stil files before after fault cause same =
    by (subst (IsLoadedCause names stil files before after) same cause)
  where
    by : IsLoadedCause names stil files before after SinkFailed → ⊥
    by (inl load) = no_load_sink names files before after load
    by (inr (inl (held, read))) = read
    by (inr (inr (word, held))) = word

-- the grades that the words of `grade` ask for
pub grade_asked : (words : List (List ℕ)) (request : GradeWords) (files : Option Files) (chip : LinkedChip) (chains : List (List ℕ))
    (pairs : List (List Bool)) (grades : List grade.Grade) → IsSpelledGrade words request → AreAllChains chip chains
    → IsChipOfFiles files (names_of request.files) chip → AreGradesByFile files request.stil.now chip chains pairs grades
    → IsAsked words files (Grade chip chains pairs grades)
grade_asked words request files chip chains pairs grades spelled all held are = (
  spelled.is,
  (
    all,
    (
      subst (λ asked. IsChipOfFiles files asked chip) spelled.files held,
      subst (λ name. AreGradesByFile files name chip chains pairs grades) spelled.stil are,
    ),
  ),
)

-- the file that they name
pub grade_files : (words : List (List ℕ)) (request : GradeWords) (chip : LinkedChip) (chains : List (List ℕ))
    (pairs : List (List Bool)) (grades : List grade.Grade) (text : List ℕ) (file : OutFile) → IsSpelledGrade words request
    → text ≡ grades_text chip grades → IsOutFile request.report.now text file
    → HasFiles words (Grade chip chains pairs grades) (Some file) None
grade_files words request chip chains pairs grades text file spelled is file_is = record {
  first_is = record {
    name_is = file_is.name_is ∙ spelled.report;
    typed_is = file_is.typed_is ∙ spelled.report;
    bytes_are = file_is.bytes_are ∙ is;
  };
  second_is = refl;
}

-- why they ask for none
pub grade_cause : (words : List (List ℕ)) (request : GradeWords) (files : Option Files) (before after : ℕ) (fault : Fault)
    → IsSpelledGrade words request → IsLoadedCause (names_of request.files) request.stil.now files before after fault
    → IsWorkCause words files before after fault
grade_cause words request files before after fault spelled cause = inr (inr (inr (inr (inl (
  inr (inr (inr (inr (inr (inl spelled.is))))),
  by (subst (λ name. IsLoadedCause (chip_files words) name files before after fault) spelled.stil
      (subst (λ asked. IsLoadedCause asked request.stil.now files before after fault) spelled.files cause)),
)))))
  where
    by : IsLoadedCause (chip_files words) (stil_word words) files before after fault
        → IsLoadCause (chip_files words) files before after fault ⊎ IsOwnCause words files before after fault
    by (inl load) = inl load
    by (inr own) = inr (inr (inr (inr (inr (inl (spelled.is, own))))))

-- the tests of the generated chip that the words of `make` ask for
pub make_asked : (words : List (List ℕ)) (number : ℕ) (files : Option Files) (chip : LinkedChip) (pairs : List (List Bool))
    (aims : List ℕ) (verdicts : List Verdict) → IsSpelledMake words number → IsMadeChip number chip
    → IsGood (task_of chip MAKE_BUDGET) pairs aims verdicts → IsAsked words files (Make chip pairs aims verdicts)
make_asked words number files chip pairs aims verdicts spelled is good =
    (spelled.is, record { number = number; said = spelled.number_is; is = is; good = good })

-- why they ask for none
pub make_cause : (words : List (List ℕ)) (number : ℕ) (files : Option Files) (before after : ℕ) (fault : Fault)
    → IsSpelledMake words number → IsMakeStage number fault → IsWorkCause words files before after fault
make_cause words number files before after fault spelled stage =
    inr (inr (inr (inr (inr (spelled.is, record { number = number; said = spelled.number_is; stage = stage })))))

-- the output is never to blame
pub no_make_sink : (number : ℕ) (fault : Fault) → IsMakeStage number fault → fault ≢ SinkFailed
no_make_sink number fault (inl memory) same = let both : NoMemory ≡ SinkFailed = sym memory ∙ same in cc
no_make_sink number fault (inr many) same = subst IsPairsFault same many.pairs

-- what follows from what an answer is
pub ok_then : {T E : Type 0} (answer : Result T E) (P Q : T → Type 0) → ((it : T) → P it → Q it) → IfOk answer P → IfOk answer Q
ok_then (Ok it) P Q next held = next it held
ok_then (Err fault) P Q next held = tt

-- what follows from why there is none
pub err_then : {T E : Type 0} (answer : Result T E) (P Q : E → Type 0) → ((fault : E) → P fault → Q fault) → IfErr answer P → IfErr answer Q
err_then (Ok it) P Q next held = tt
err_then (Err fault) P Q next held = next fault held

-- the instance and the defect of a command that words spell are both a dash, or neither is
pub is_whole : (words : List (List ℕ)) (command : Command) → IsSpelled words command → IsWhole command
is_whole words (command.Respond request) spelled = tt
is_whole words (command.Pair request) spelled = tt
is_whole words (command.Defects request) spelled = tt
is_whole words (command.Matrix request) spelled = tt
is_whole words (command.Check names) spelled = tt
is_whole words (command.Flatten request) spelled = rw (spelled.of.instance, spelled.of.defect) spelled.is.defect
is_whole words (command.Simulate request) spelled = rw (spelled.of.instance, spelled.of.defect) spelled.is.defect
is_whole words (command.Atpg request) spelled = tt
is_whole words (command.Replay request) spelled = rw (spelled.of.instance, spelled.of.defect) spelled.is.defect
is_whole words (command.Grade request) spelled = tt
is_whole words (command.Diagnose request) spelled = tt
is_whole words (command.Certify request) spelled = tt
is_whole words (command.Verify request) spelled = tt
is_whole words (command.Bridges request) spelled = tt
is_whole words (command.Make number) spelled = let said = spelled.number_is in said.few
is_whole words command.Help spelled = tt
is_whole words command.Version spelled = tt
