-- How what `diagnose` ends with follows from what it finds.
use Rattle.std.proofs.Common.{ℕ, ◌≡◌, ◌≢◌, ◌⊎◌, ◌∙◌, inl, inr, refl, subst, Bool, List, length, Option, Some, None}
use Rattle.ca_store.specs.Store.{Files}
use Rattle.ca_fault.specs.declared.fault.Fault.{Fault}
use Rattle.ca_fault.specs.declared.fault.Fault.TheVariants.{SinkFailed}
use Rattle.ca_linked.specs.Linked.{LinkedChip}
use Rattle.ca_scan.specs.ChainFault.{AreAllChains}
use Rattle.ca_engine.specs.ChipTask.{task_of}
use Rattle.ca_log.specs.declared.record.LogRecord.{LogRecord}
use Rattle.ca_diag.specs.declared.candidate.Candidate as candidate
use Rattle.ca_chip_diag.specs.Texts.{candidates_text, diagnosis_line}
use Rattle.ca_load.specs.Texts.{InputFiles, names_of}
use Rattle.ca_load.specs.Causes.{IsLoadCause}
use Rattle.ca_words.specs.Words.{chip_files, stil_word, log_word}
use Rattle.ca_words.specs.declared.words.DiagnoseWords.{DiagnoseWords}
use Rattle.ca_words.specs.Command.{IsSpelledDiagnose}
use Rattle.ca_on_chip.specs.OnChip.{IsChipOfFiles}
use Rattle.ca_diagnosing.specs.Diagnosing.{AreCandidatesByFiles, IsDiagnosedCause}
use Rattle.ca_flow.specs.declared.finished.Done.TheVariants.{Diagnose}
use Rattle.ca_flow.specs.declared.work.OutFile.{OutFile}
use Rattle.ca_flow.specs.code.Work.{IsOutFile, HasFiles}
use Rattle.ca_flow.specs.Fault.{IsOwnCause, IsWorkCause}
use Rattle.ca_flow.specs.Ends.{IsAsked}
use Rattle.ca_flow.proofs.CauseLemmas.{no_grade_sink}

-- no work of `diagnose` is refused for the output
pub no_diagnose_sink : (names : InputFiles) (stil log : List ℕ) (files : Option Files) (before after : ℕ) (fault : Fault)
    → IsDiagnosedCause names stil log files before after fault → fault ≢ SinkFailed
no_diagnose_sink names stil log files before after fault cause same =
    by (subst (IsDiagnosedCause names stil log files before after) same cause)
  where
    by : IsDiagnosedCause names stil log files before after SinkFailed → ⊥
    by (inl loaded) = no_grade_sink names stil files before after SinkFailed loaded refl
    by (inr (inl (held, read))) = read
    by (inr (inr (word, held))) = word

-- the candidates that the words of `diagnose` ask for
pub diagnose_asked : (words : List (List ℕ)) (request : DiagnoseWords) (files : Option Files) (chip : LinkedChip) (chains : List (List ℕ))
    (pairs : List (List Bool)) (log : List LogRecord) (candidates : List candidate.Candidate) (line : List ℕ)
    → IsSpelledDiagnose words request → AreAllChains chip chains → IsChipOfFiles files (names_of request.files) chip
    → AreCandidatesByFiles files request.stil.now request.log.now chip chains pairs log candidates
    → line ≡ diagnosis_line (length candidates) (length (task_of chip 0).defects) (length log)
    → IsAsked words files (Diagnose chip chains pairs log candidates line)
diagnose_asked words request files chip chains pairs log candidates line spelled all held are is = (
  spelled.is,
  (
    all,
    (
      subst (λ asked. IsChipOfFiles files asked chip) spelled.files held,
      (
        subst (λ name. AreCandidatesByFiles files (stil_word words) name chip chains pairs log candidates) spelled.log
            (subst (λ name. AreCandidatesByFiles files name request.log.now chip chains pairs log candidates) spelled.stil are),
        is,
      ),
    ),
  ),
)

-- the file that they name
pub diagnose_files : (words : List (List ℕ)) (request : DiagnoseWords) (chip : LinkedChip) (chains : List (List ℕ))
    (pairs : List (List Bool)) (log : List LogRecord) (candidates : List candidate.Candidate) (line text : List ℕ) (file : OutFile)
    → IsSpelledDiagnose words request → text ≡ candidates_text chip (task_of chip 0).defects candidates
    → IsOutFile request.out.now text file → HasFiles words (Diagnose chip chains pairs log candidates line) (Some file) None
diagnose_files words request chip chains pairs log candidates line text file spelled is file_is = record {
  first_is = record {
    name_is = file_is.name_is ∙ spelled.out;
    typed_is = file_is.typed_is ∙ spelled.out;
    bytes_are = file_is.bytes_are ∙ is;
  };
  second_is = refl;
}

-- why they ask for none
pub diagnose_cause : (words : List (List ℕ)) (request : DiagnoseWords) (files : Option Files) (before after : ℕ) (fault : Fault)
    → IsSpelledDiagnose words request
    → IsDiagnosedCause (names_of request.files) request.stil.now request.log.now files before after fault
    → IsWorkCause words files before after fault
diagnose_cause words request files before after fault spelled cause = inr (inr (inr (inr (inl (
  inr (inr (inr (inr (inr (inr (inl spelled.is)))))),
  by (subst (λ name. IsDiagnosedCause (chip_files words) (stil_word words) name files before after fault) spelled.log
      (subst (λ name. IsDiagnosedCause (chip_files words) name request.log.now files before after fault) spelled.stil
      (subst (λ asked. IsDiagnosedCause asked request.stil.now request.log.now files before after fault) spelled.files cause))),
)))))
  where
    by : IsDiagnosedCause (chip_files words) (stil_word words) (log_word words) files before after fault
        → IsLoadCause (chip_files words) files before after fault ⊎ IsOwnCause words files before after fault
    by (inl (inl load)) = inl load
    by (inl (inr patterns)) = inr (inr (inr (inr (inr (inr (inl (spelled.is, inl patterns)))))))
    by (inr log) = inr (inr (inr (inr (inr (inr (inl (spelled.is, inr log)))))))
