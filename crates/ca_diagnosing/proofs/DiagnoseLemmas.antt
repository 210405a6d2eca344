-- What `diagnose` finds, and why it finds nothing, from what its stages find.
use Rattle.std.proofs.Common.{ℕ, ◌≡◌, ◌<◌, ◌^◌, inl, inr, Bool, List, length, Option, subst, sym, arith}
use Rattle.std.specs.List.{All}
use Rattle.std.proofs.lemmas.Option.{slice_get_within}
use Rattle.ca_store.specs.Store.{Files}
use Rattle.ca_store.specs.ReadFault.{IsWhole}
use Rattle.ca_net.specs.declared.trit.Trit.{Trit}
use Rattle.ca_linked.specs.Linked.{LinkedChip}
use Rattle.ca_view.specs.Core.{core_of}
use Rattle.ca_scan.specs.ChainFault.{AreAllChains}
use Rattle.ca_chip_stil.specs.ChipStil.{AreOfChip}
use Rattle.ca_credit.specs.Defects.{Task}
use Rattle.ca_expected.specs.Expected.{AreExpected}
use Rattle.ca_engine.specs.ChipTask.{task_of}
use Rattle.ca_log.specs.declared.record.LogRecord.{LogRecord}
use Rattle.ca_diag.specs.declared.candidate.Candidate.{Candidate}
use Rattle.ca_diag.specs.Candidates.{AreCandidates}
use Rattle.ca_stil_pairs.specs.declared.file.StilFile.{StilFile}
use Rattle.ca_fault.specs.declared.fault.Fault.{Fault}
use Rattle.ca_fault.specs.declared.fault.Fault.TheVariants.{NoMemory}
use Rattle.ca_load.specs.Files.{OfFile, IsReadCause}
use Rattle.ca_load.specs.Texts.{InputFiles, OfInputs}
use Rattle.ca_load.specs.Chips.{IsChipOf}
use Rattle.ca_load.proofs.ReadLemmas.{of_whole, of_file_then}
use Rattle.ca_patterns.specs.declared.patterns.TheConstants.{MAX_STIL}
use Rattle.ca_patterns.specs.Patterns.{IsPatternsOf, AreFew, IsLoadedCause}
use Rattle.ca_patterns.proofs.PatternLemmas.{of_traced, at_wrong}
use Rattle.ca_diagnosing.specs.declared.logs.TheConstants.{MAX_LOG}
use Rattle.ca_diagnosing.specs.Diagnosing.{IsLogIn, AreCandidatesByFiles, IsBadLog, HasRight, IsDiagnosedCause}
use Rattle.ca_diagnosing.specs.code.Stages.{IsLogTextStage, IsLogStage, IsJudgedStage}

module _ (chip : LinkedChip) (expected : List (List Trit)) (name : List ℕ) (files : Option Files) (before after : ℕ) (fault : Fault) where
  -- a file that wasn't read
  pub at_file : IsReadCause name files MAX_LOG before after fault → IsLogStage chip expected name files before after fault
  at_file cause = inl cause

  -- a text that is no log
  pub at_text : (bytes : List ℕ) → IsWhole files name MAX_LOG bytes → IsLogTextStage chip expected bytes fault
      → IsLogStage chip expected name files before after fault
  at_text bytes whole (inl memory) = rw memory (inl tt)
  at_text bytes whole (inr (is, cause)) =
      inr (is, of_whole files name bytes MAX_LOG (IsBadLog chip expected fault) whole cause)

-- there are as few lists of values as pairs
pub few_values : (chip : LinkedChip) (chains : List (List ℕ)) (file : StilFile) → AreOfChip chip chains file.pairs file.expected
    → AreFew file → length file.expected < 2 ^ 32
few_values chip chains file of few = let counted = of.counted in omega (arith, few, counted)

-- no chip with patterns
pub at_loaded : (names : InputFiles) (stil log : List ℕ) (files : Option Files) (before after : ℕ) (fault : Fault)
    → IsLoadedCause names stil files before after fault → IsDiagnosedCause names stil log files before after fault
at_loaded names stil log files before after fault cause = inl cause

-- no memory
pub no_memory : (names : InputFiles) (stil log : List ℕ) (files : Option Files) (before after : ℕ) (fault : Fault)
    → fault ≡ NoMemory → IsDiagnosedCause names stil log files before after fault
no_memory names stil log files before after fault memory =
    inl (inl (inl (inl (inl memory))))

-- patterns of the chip of the files that are wrong, or have no log
pub at_logged : (files mid : Option Files) (names : InputFiles) (stil log : List ℕ) (before between after : ℕ) (chip : LinkedChip)
    (chains : List (List ℕ)) (file : StilFile) (fault : Fault) → mid ≡ files → between ≡ before
    → OfInputs files names (λ inputs. IsChipOf inputs chip) → AreAllChains chip chains
    → OfFile files stil MAX_STIL (IsPatternsOf chip chains file) → AreFew file
    → IsJudgedStage chip file log mid between after fault → IsDiagnosedCause names stil log files before after fault
at_logged files mid names stil log before between after chip chains file fault kept quiet held all patterns few stage = by
    (subst (λ (known : Option Files). IsJudgedStage chip file log known before after fault) kept
    (subst (λ (count : ℕ). IsJudgedStage chip file log mid count after fault) quiet stage))
  where
    right_file : (Holds : StilFile → Type 0) → AreExpected (core_of chip) file.pairs file.expected → Holds file
        → OfFile files stil MAX_STIL (HasRight chip chains Holds)
    right_file Holds right holds = of_file_then files stil MAX_STIL (IsPatternsOf chip chains file) (HasRight chip chains Holds)
        (λ bytes is. record { file = file; is = is; few = few; right = right; holds = holds }) patterns

    by : IsJudgedStage chip file log files before after fault → IsDiagnosedCause names stil log files before after fault
    by (inl wrong) = inl (at_wrong files names stil before after chip chains file fault held all patterns few wrong)
    by (inr (right, inl unread)) = inr (inl (
      of_traced files names chip chains
          (λ chip chains. OfFile files stil MAX_STIL (HasRight chip chains (λ file. Unit {0}))) held all
          (right_file (λ file. Unit {0}) right tt),
      unread,
    ))
    by (inr (right, inr (is, bad))) = inr (inr (
      is,
      of_traced files names chip chains
          (λ chip chains. OfFile files stil MAX_STIL
          (HasRight chip chains (λ file. OfFile files log MAX_LOG (IsBadLog chip file.expected fault)))) held all
          (right_file (λ file. OfFile files log MAX_LOG (IsBadLog chip file.expected fault)) right bad),
    ))

-- candidates are among the defects
pub within : (task : Task) (pairs : List (List Bool)) (log : List LogRecord) (candidates : List Candidate)
    → AreCandidates task pairs log candidates → All (λ one. one.defect < length task.defects) candidates
within task pairs log candidates are k d below =
    let here = are.each k d below in
    slice_get_within task.defects _ here.defect here.at

-- the candidates of the chip of the files
pub are_candidates : (files : Option Files) (stil log : List ℕ) (chip : LinkedChip) (chains : List (List ℕ)) (file : StilFile)
    (logged : List LogRecord) (candidates : List Candidate) → OfFile files stil MAX_STIL (IsPatternsOf chip chains file) → AreFew file
    → AreExpected (core_of chip) file.pairs file.expected → OfFile files log MAX_LOG (IsLogIn chip file.expected logged)
    → AreCandidates (task_of chip 0) file.pairs logged candidates
    → AreCandidatesByFiles files stil log chip chains file.pairs logged candidates
are_candidates files stil log chip chains file logged candidates patterns few right of_log are = record {
  expected = file.expected;
  candidates_are = are;
  few = few;
  right = right;
  of_stil = patterns;
  of_log = of_log;
}
