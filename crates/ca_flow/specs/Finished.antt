-- How a command ends, and what it prints and writes.
use Rattle.std.specs.Prelude.{◌≡◌, ◌≢◌, ◌<◌, ◌≤◌, ◌⊎◌, ◌↔◌, ℕ, List, length, Option, Some, None, IsSome}
use Rattle.std.specs.Prelude.{IsNone, IfSome}
use Rattle.std.specs.List.{flat_map}
use Rattle.std.specs.Option.{ForSome}
use Rattle.ca_store.specs.Store.{Files, appended, AppendsPart}
use Rattle.ca_store.specs.Writing.{ChangesOnly, MayWrite}
use Rattle.ca_flat_text.specs.FlatText.{flat_text}
use Rattle.ca_matrix.specs.Text.{text_of}
use Rattle.ca_atpg.specs.Atpg.{IsStil, report_of, summary_text}
use Rattle.ca_chip_grade.specs.Texts.{grades_text, grades_line}
use Rattle.ca_engine.specs.ChipTask.{task_of}
use Rattle.ca_chip_diag.specs.Texts.{candidates_text}
use Rattle.ca_cert_text.specs.CertText.{certificate_text}
use Rattle.ca_certifying.specs.Certified.{certified_line}
use Rattle.ca_bridge_report.specs.BridgeReport.{bridges_report}
use Rattle.ca_bridge_report.specs.Summary.{bridges_line}
use Rattle.ca_fault.specs.declared.fault.Fault.{Fault}
use Rattle.ca_fault.specs.declared.fault.Fault.TheVariants.{StoreFailed, SinkFailed}
use Rattle.ca_flow.specs.declared.finished.Done.{Done}
use Rattle.ca_flow.specs.declared.finished.Done.TheVariants.{Respond, Pair, Defects, Matrix, Check, Flatten}
use Rattle.ca_flow.specs.declared.finished.Done.TheVariants.{Simulate, Atpg, Replay, Grade}
use Rattle.ca_flow.specs.declared.finished.Done.TheVariants.{Diagnose, Certify, Verify, Bridges}
use Rattle.ca_flow.specs.declared.finished.Done.TheVariants.{Make, Help, Version}
use Rattle.ca_flow.specs.declared.finished.Finished.{Finished}
use Rattle.ca_fault.specs.FaultLine.{status_of}
use Rattle.ca_on_cell.specs.Lines.{line_of_pin, line_of_name, IsSummary}
use Rattle.ca_on_chip.specs.Lines.{check_text, flatten_text, simulate_text, replay_text}
use Rattle.ca_flow.specs.Usage.{usage_text, version_text}
use Rattle.ca_words.specs.Words.{out_word, flat_out_word, stil_word, report_word, candidates_word, cert_word}
use Rattle.ca_words.specs.Words.{bridges_stil_word, bridges_report_word, HasOut}

-- the text reports a command's work
abbrev pub IsReported : Done → List ℕ → Type 0
IsReported (Respond values) text = text ≡ flat_map line_of_pin values
IsReported (Pair values) text = text ≡ flat_map line_of_pin values
IsReported (Defects names) text = text ≡ flat_map line_of_name names
IsReported (Matrix matrix) text = IsSummary matrix text
IsReported (Check chip chains) text = text ≡ check_text chip chains
IsReported (Flatten chip net) text = text ≡ flatten_text net
IsReported (Simulate chip ends) text = text ≡ simulate_text chip ends.good.items ends.faulty.items
IsReported (Atpg chip chains pairs aims verdicts) text = text ≡ summary_text verdicts (length pairs)
IsReported (Replay chip ends) text = text ≡ replay_text chip ends.items
IsReported (Grade chip chains pairs grades) text = text ≡ grades_line grades (length pairs)
IsReported (Diagnose chip chains pairs log candidates line) text = text ≡ line
IsReported (Certify chip chains pairs aims certificate) text =
    text ≡ certified_line certificate.claims (length pairs)
IsReported (Verify chip chains pairs certificate answer line) text = text ≡ line
IsReported (Bridges chip chains bridges pairs aims verdicts) text =
    text ≡ bridges_line verdicts (length pairs)
IsReported (Make chip pairs aims verdicts) text = text ≡ summary_text verdicts (length pairs)
IsReported Help text = text ≡ usage_text
IsReported Version text = text ≡ version_text

-- the exit status of a fault, and 0 where there is none
abbrev pub status_reported : Option Fault → ℕ
status_reported None = 0
status_reported (Some fault) = status_of fault

-- the file that the command writes could not be written
abbrev pub IsOutFault : List (List ℕ) → Option Fault → Type 0
IsOutFault words fault = (name : List ℕ) × (HasOut words name × (fault ≡ Some (StoreFailed name)))

-- the status is that of the fault, and the work is reported exactly where it is 0, or the output or the
-- writing of a file failed
pub record IsAnswer (words : List (List ℕ)) (end : Finished) : Type 0 where
  pub status : end.status ≡ status_reported end.fault
  pub done : IsSome end.done
      ↔ ((end.status ≡ 0) ⊎ ((end.fault ≡ Some SinkFailed) ⊎ IsOutFault words end.fault))

-- this holds of a text that reports the work
abbrev pub HasText : Done → (List ℕ → Type 0) → Type 0
HasText done Holds = (text : List ℕ) × (IsReported done text × Holds text)

-- what was printed: the lines of the work, a part of them where the output failed, and else nothing
pub record Prints (end : Finished) (old new : Option (List ℕ)) : Type 0 where
  pub all : ForSome end.done (λ done. end.status ≡ 0 → HasText done (λ text. new ≡ appended text old))
  pub part : ForSome end.done (λ done.
      end.fault ≡ Some SinkFailed → HasText done (λ text. AppendsPart text old new))
  pub nothing : end.status ≢ 0 → end.fault ≢ Some SinkFailed → new ≡ old

-- what work with a file leaves of the files: its text stands in the file, or a part of it where the writing
-- failed, and every other file is as it was
abbrev pub LeavesText : List (List ℕ) → Option Fault → Option Files → Option Files → List ℕ → List ℕ → Type 0
LeavesText words fault old new name text =
    (IsOutFault words fault → MayWrite old new name text)
    × (¬ (IsOutFault words fault) → ChangesOnly old new name (Some text))

-- both files have their texts, and every other file is as it was
pub record ChangesBoth (old new : Option Files) (first first_text second second_text : List ℕ) : Type 0 where
  pub between : Option Files
  pub first_is : ChangesOnly old between first (Some first_text)
  pub second_is : ChangesOnly between new second (Some second_text)

-- the first file has its text, a part of its text may stand in the second, and every other file is as it was
pub record MayChangeSecond (old new : Option Files) (first first_text second second_text : List ℕ) : Type 0
  where
    pub between : Option Files
    pub first_is : ChangesOnly old between first (Some first_text)
    pub second_is : MayWrite between new second second_text

-- What work with two files leaves of them. The first is whole before the second is begun.
pub record LeavesBoth (words : List (List ℕ)) (fault : Option Fault) (old new : Option Files)
    (first second : List ℕ) (IsFirst : List ℕ → Type 0) (text : List ℕ) : Type 0 where
  pub stil : List ℕ
  pub is_stil : IsFirst stil
  pub first_failed : fault ≡ Some (StoreFailed first) → MayWrite old new first stil
  pub second_failed : fault ≡ Some (StoreFailed second) → MayChangeSecond old new first stil second text
  pub both : ¬ (IsOutFault words fault) → ChangesBoth old new first stil second text

-- what work that is reported leaves of the files
abbrev pub LeavesFiles : List (List ℕ) → Option Fault → Option Files → Option Files → Done → Type 0
LeavesFiles words fault old new (Matrix matrix) =
    LeavesText words fault old new (out_word words) (text_of matrix)
LeavesFiles words fault old new (Flatten chip net) =
    LeavesText words fault old new (flat_out_word words) (flat_text net)
LeavesFiles words fault old new (Atpg chip chains pairs aims verdicts) =
    LeavesBoth words fault old new (stil_word words) (report_word words) (IsStil chip chains pairs)
    (report_of chip verdicts)
LeavesFiles words fault old new (Grade chip chains pairs grades) =
    LeavesText words fault old new (report_word words) (grades_text chip grades)
LeavesFiles words fault old new (Diagnose chip chains pairs log candidates line) =
    LeavesText words fault old new (candidates_word words)
    (candidates_text chip (task_of chip 0).defects candidates)
LeavesFiles words fault old new (Certify chip chains pairs aims certificate) =
    LeavesBoth words fault old new (stil_word words) (cert_word words) (IsStil chip chains pairs)
    (certificate_text certificate)
LeavesFiles words fault old new (Bridges chip chains bridges pairs aims verdicts) =
    LeavesBoth words fault old new (bridges_stil_word words) (bridges_report_word words)
    (IsStil chip chains pairs) (bridges_report chip bridges verdicts)
LeavesFiles words fault old new _ = new ≡ old

-- what a command leaves of the files: where no work is reported they are as they were
pub record Writes (words : List (List ℕ)) (end : Finished) (old new : Option Files) : Type 0 where
  pub done : IfSome end.done (LeavesFiles words end.fault old new)
  pub nothing : IsNone end.done → new ≡ old

-- where the sink's count of faults rose, the answer says that the output failed, and the count never falls
pub record ReportsSinkFault (fault : Option Fault) (before after : ℕ) : Type 0 where
  pub reported : before < after → fault ≡ Some SinkFailed
  pub later : before ≤ after
