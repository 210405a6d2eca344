-- What `diagnose` finds of a chip, and why it finds nothing.
use Rattle.std.specs.Prelude.{◌≡◌, ◌≤◌, ◌⊎◌, ℕ, Bool, List, length, Option, Ok, Err, ⊤}
use Rattle.ca_store.specs.Store.{Files}
use Rattle.ca_net.specs.declared.trit.Trit.{Trit}
use Rattle.ca_linked.specs.Linked.{LinkedChip}
use Rattle.ca_view.specs.Core.{core_of}
use Rattle.ca_outputs.specs.Outputs.{output_names}
use Rattle.ca_credit.specs.declared.limit.TheConstants.{MOST_PAIRS}
use Rattle.ca_expected.specs.Expected.{AreExpected}
use Rattle.ca_engine.specs.ChipTask.{task_of}
use Rattle.ca_log.specs.declared.record.LogRecord.{LogRecord}
use Rattle.ca_log.specs.LogText.{log_of}
use Rattle.ca_diag.specs.declared.candidate.Candidate.{Candidate}
use Rattle.ca_diag.specs.Candidates.{AreCandidates}
use Rattle.ca_stil_pairs.specs.declared.file.StilFile.{StilFile}
use Rattle.ca_fault.specs.declared.fault.Fault.{Fault}
use Rattle.ca_fault.specs.declared.fault.Fault.TheVariants.{Log}
use Rattle.ca_load.specs.Files.{IsFileWith, OfFile, IsReadCause}
use Rattle.ca_load.specs.Texts.{InputFiles}
use Rattle.ca_patterns.specs.declared.patterns.TheConstants.{MAX_STIL}
use Rattle.ca_patterns.specs.Patterns.{IsPatternsOf, AreFew, IsPatternsCause, IsLoadedCause}
pub use Rattle.ca_patterns.specs.Right.{HasRight, OfRight}
use Rattle.ca_diagnosing.specs.declared.logs.TheConstants.{MAX_LOG}

-- the text is this log of the chip, under whose pairs these values are expected
abbrev pub IsLogIn : LinkedChip → List (List Trit) → List LogRecord → List ℕ → Type 0
IsLogIn chip expected log bytes = log_of (output_names chip) expected bytes ≡ Ok log

-- the candidates are those of the chip's defects by the pairs, of which there are no more than may be listed,
-- and by the log; each expected value is what the good chip ends with; and where the files are known, the
-- pairs and these values are those of the file of patterns, and the log is that of its file
pub record AreCandidatesByFiles (files : Option Files) (stil log : List ℕ) (chip : LinkedChip)
    (chains : List (List ℕ)) (pairs : List (List Bool)) (logged : List LogRecord)
    (candidates : List Candidate) : Type 0 where
  pub expected : List (List Trit)
  pub candidates_are : AreCandidates (task_of chip 0) pairs logged candidates
  pub few : length pairs ≤ MOST_PAIRS
  pub right : AreExpected (core_of chip) pairs expected
  pub of_stil : OfFile files stil MAX_STIL
      (IsPatternsOf chip chains (record { pairs = pairs; expected = expected }))
  pub of_log : OfFile files log MAX_LOG (IsLogIn chip expected logged)

-- why a text is no log of the chip: its first bad record
abbrev pub IsBadLog : LinkedChip → List (List Trit) → Fault → List ℕ → Type 0
IsBadLog chip expected (Log row) bytes = log_of (output_names chip) expected bytes ≡ Err row
IsBadLog chip expected _ bytes = ⊥

-- the fault is one of a log
abbrev pub IsLogFault : Fault → Type 0
IsLogFault (Log row) = ⊤
IsLogFault _ = ⊥

-- why the file of the log was not read, after right patterns of the chip of the files
abbrev pub IsUnreadLogCause : InputFiles → List ℕ → List ℕ → Option Files → ℕ → ℕ → Fault → Type 0
IsUnreadLogCause names stil log files before after fault =
    OfRight files names stil (λ chip file. ⊤) × IsReadCause log files MAX_LOG before after fault

-- why it is no log, after right patterns of the chip of the files
abbrev pub IsBadLogCause : InputFiles → List ℕ → List ℕ → Option Files → Fault → Type 0
IsBadLogCause names stil log files fault = IsLogFault fault
    × OfRight files names stil (λ chip file. OfFile files log MAX_LOG (IsBadLog chip file.expected fault))

-- why there is no log, after right patterns of the chip of the files
abbrev pub IsLogCause : InputFiles → List ℕ → List ℕ → Option Files → ℕ → ℕ → Fault → Type 0
IsLogCause names stil log files before after fault =
    IsUnreadLogCause names stil log files before after fault ⊎ IsBadLogCause names stil log files fault

-- why the chip of the files has no patterns, or wrong ones, or there is no log: the patterns come first
abbrev pub IsDiagnoseCause : InputFiles → List ℕ → List ℕ → Option Files → ℕ → ℕ → Fault → Type 0
IsDiagnoseCause names stil log files before after fault =
    IsPatternsCause names stil files before after fault ⊎ IsLogCause names stil log files before after fault

-- why there are no candidates: the chip comes first, then its patterns, then the log
abbrev pub IsDiagnosedCause : InputFiles → List ℕ → List ℕ → Option Files → ℕ → ℕ → Fault → Type 0
IsDiagnosedCause names stil log files before after fault =
    IsLoadedCause names stil files before after fault ⊎ IsLogCause names stil log files before after fault

-- the file of this name has right patterns of the chip with these chains, and the other a log for them
pub record FitsDiagnosis (reported : Files) (stil log : List ℕ) (chip : LinkedChip) (chains : List (List ℕ))
    : Type 0 where
  pub file : StilFile
  pub few : AreFew file
  pub right : AreExpected (core_of chip) file.pairs file.expected
  pub there : IsFileWith reported stil MAX_STIL (IsPatternsOf chip chains file)
  pub logged : List LogRecord
  pub log_there : IsFileWith reported log MAX_LOG (IsLogIn chip file.expected logged)
