-- How a command ends, from how its work, its writing and its printing do.
use Rattle.std.proofs.Common.{ℕ, ◌≤◌, ◌≡◌, ◌≢◌, ◌⊎◌, ◌∙◌, inl, inr, refl, sym, ap, subst, List, Option, Some}
use Rattle.std.proofs.Common.{None, true≢false, arith, is_some}
use Rattle.std.proofs.lemmas.Option.{same_Some}
use Rattle.std.specs.Prelude.{IfSome, IsSome, IsNone, IsSomeAnd}
use Rattle.std.specs.Option.{ForSome}
use Rattle.ca_store.specs.Store.{Files, Rose}
use Rattle.ca_store.specs.Writing.{ChangesOnly, MayWrite}
use Rattle.ca_flat_text.specs.FlatText.{flat_text}
use Rattle.ca_matrix.specs.Text.{text_of}
use Rattle.ca_fault.specs.declared.fault.Fault.{Fault}
use Rattle.ca_fault.specs.declared.fault.Fault.TheVariants.{BadWords, Strengths, Cells, Netlist, Scan, Chip, Chain}
use Rattle.ca_fault.specs.declared.fault.Fault.TheVariants.{NoCell, Cell, BadVector, NoInstance, NoDefect}
use Rattle.ca_fault.specs.declared.fault.Fault.TheVariants.{Order, Stil, StilChip, Expected, Log, TooLong}
use Rattle.ca_fault.specs.declared.fault.Fault.TheVariants.{Cert, CertChip, TooManyPairs, Limit, StoreFailed}
use Rattle.ca_fault.specs.declared.fault.Fault.TheVariants.{SinkFailed, NoMemory}
use Rattle.ca_flow.specs.declared.finished.Done.{Done}
use Rattle.ca_flow.specs.declared.finished.Done.TheVariants.{Respond, Pair, Defects, Matrix, Check, Flatten}
use Rattle.ca_flow.specs.declared.finished.Done.TheVariants.{Simulate, Atpg, Replay, Grade}
use Rattle.ca_flow.specs.declared.finished.Done.TheVariants.{Diagnose, Certify, Verify, Bridges, Make, Help, Version}
use Rattle.ca_flow.specs.declared.finished.Finished.{Finished}
use Rattle.ca_flow.specs.declared.work.OutFile.{OutFile}
use Rattle.ca_fault.specs.FaultLine.{status_of}
use Rattle.ca_words.specs.Words.{out_word, flat_out_word, stil_word, report_word, candidates_word, cert_word, HasOut}
use Rattle.ca_words.specs.Words.{bridges_stil_word, bridges_report_word}
use Rattle.ca_flow.specs.Finished.{status_reported, IsReported, IsOutFault, IsAnswer, Prints, LeavesText, LeavesBoth}
use Rattle.ca_flow.specs.Finished.{LeavesFiles, Writes, ReportsSinkFault}
use Rattle.ca_flow.specs.Fault.{Outside, IsWorkCause, IsWriteCause, IsPrintCause, IsCause}
use Rattle.ca_load.specs.Files.{ReportsStoreFault}
use Rattle.ca_flow.specs.Ends.{IsAsked}
use Rattle.ca_atpg.specs.Atpg.{IsStil, report_of}
use Rattle.ca_chip_grade.specs.Texts.{grades_text}
use Rattle.ca_engine.specs.ChipTask.{task_of}
use Rattle.ca_chip_diag.specs.Texts.{candidates_text}
use Rattle.ca_cert_text.specs.CertText.{certificate_text}
use Rattle.ca_bridge_report.specs.BridgeReport.{bridges_report}
use Rattle.ca_flow.specs.code.Work.{IsOutFile, IsFileWith, HasFiles, HasWritten, FailsToWrite}
use Rattle.ca_flow.specs.code.Work.{HaveBeenWritten}
use Rattle.ca_flow.specs.code.Work.{FailToWrite, HasPrinted, FailsToPrint, EndsWork}
use Rattle.ca_flow.proofs.CauseLemmas.{out_is_unread}

-- no fault has the status of work that is whole
status_is_reported : (fault : Fault) → status_of fault ≡ 0 → ⊥
status_is_reported BadWords zero = cc
status_is_reported (Strengths row) zero = cc
status_is_reported (Cells line kind) zero = cc
status_is_reported (Netlist line kind) zero = cc
status_is_reported (Scan row) zero = cc
status_is_reported (Chip rule place) zero = cc
status_is_reported (Chain name) zero = cc
status_is_reported (NoCell typed) zero = cc
status_is_reported (Cell cell rule place) zero = cc
status_is_reported (BadVector typed) zero = cc
status_is_reported (NoInstance typed) zero = cc
status_is_reported (NoDefect typed) zero = cc
status_is_reported (Order line) zero = cc
status_is_reported (Stil line) zero = cc
status_is_reported StilChip zero = cc
status_is_reported (Expected pair output) zero = cc
status_is_reported (Log row) zero = cc
status_is_reported (Cert line) zero = cc
status_is_reported (CertChip claims) zero = cc
status_is_reported (TooLong typed taken) zero = cc
status_is_reported (TooManyPairs pairs aims) zero = cc
status_is_reported (Limit kind count) zero = cc
status_is_reported (StoreFailed typed) zero = cc
status_is_reported SinkFailed zero = cc
status_is_reported NoMemory zero = cc

none_is_some : {A : Type 0} {it : A} → None ≡ Some it → ⊥
none_is_some same = cc

sink_is_no_store : {name : List ℕ} → SinkFailed ≡ StoreFailed name → ⊥
sink_is_no_store same = cc

none_reported : {A : Type 0} (reported : Option A) (P : A → Type 0) → IsNone reported → IfSome reported P
none_reported None P none = tt
none_reported (Some it) P none = absurd (true≢false none)

none_for : {A : Type 0} (reported : Option A) (P : A → Type 0) → IsNone reported → ForSome reported P
none_for reported P none = λ it is. absurd (true≢false (sym (ap is_some is) ∙ none))

-- a command that is refused before its work is whole has its fault's status, reports no work, prints nothing
-- and writes nothing
module _ (words : List (List ℕ)) (end : Finished) (fault : Fault) (is : end.fault ≡ Some fault) (status : end.status ≡ status_of fault)
    (none : IsNone end.done) where
  pub refused_answer : fault ≢ SinkFailed → ¬ (IsOutFault words (Some fault)) → IsAnswer words end
  refused_answer other own = record {
    status = rw is status;
    done = (
      λ some. absurd (true≢false (sym some ∙ none)),
      λ said. elim said [
        | inl zero ↦ absurd (status_is_reported fault (sym status ∙ zero))
        | inr (inl same) ↦ absurd (other (same_Some fault SinkFailed (sym is ∙ same)))
        | inr (inr out) ↦ absurd (own (subst (IsOutFault words) is out))
      ],
    );
  }

  pub refused_prints : (bytes : Option (List ℕ)) → Prints end bytes bytes
  refused_prints bytes = record {
    all = none_for end.done _ none;
    part = none_for end.done _ none;
    nothing = λ failed other. refl;
  }

  pub refused_asked : (files : Option Files) → IfSome end.done (IsAsked words files)
  refused_asked files = none_reported end.done (IsAsked words files) none

  pub refused_writes : (files : Option Files) → Writes words end files files
  refused_writes files = record { done = none_reported end.done (LeavesFiles words end.fault files files) none; nothing = λ reported. refl }

-- a file that could not be read is not the one that is written
pub read_is_not_written : (words : List (List ℕ)) (files : Option Files) (before after : ℕ) (fault : Fault)
    → IsWorkCause words files before after fault → ¬ (IsOutFault words (Some fault))
read_is_not_written words files before after fault cause (name, (out, same)) =
    let store : fault ≡ StoreFailed name = same_Some fault (StoreFailed name) same in
    out_is_unread words name files before after out (subst (IsWorkCause words files before after) store cause)

-- where there is no file nothing was written
no_files : (file second : Option OutFile) (old new : Option Files) → IsNone file → IsNone second → HaveBeenWritten file second old new → new ≡ old
no_files None None old new none no_second written = written.second_is ∙ written.first_is
no_files None (Some it) old new none no_second written = absurd (true≢false no_second)
no_files (Some it) second old new none no_second written = absurd (true≢false none)

-- where there is one it was
one_file : (file second : Option OutFile) (old new : Option Files) → IsNone second → HaveBeenWritten file second old new → HasWritten file old new
one_file file None old new none written = subst (HasWritten file old) (sym written.second_is) written.first_is
one_file file (Some it) old new none written = absurd (true≢false none)

-- it has its text
text_written : (words : List (List ℕ)) (fault : Option Fault) (old new : Option Files) (name text : List ℕ) (file : Option OutFile)
    → ¬ (IsOutFault words fault) → IsSomeAnd file (IsOutFile name text) → HasWritten file old new → LeavesText words fault old new name text
text_written words fault old new name text None other fits written = absurd fits
text_written words fault old new name text (Some file) other fits written =
    (λ out. absurd (other out), λ no. rw (fits.name_is, fits.bytes_are) at written)

-- where both were written they have their texts
both_written : (words : List (List ℕ)) (fault : Option Fault) (old new : Option Files) (one name : List ℕ) (IsFirst : List ℕ → Type 0) (text : List ℕ)
    (file second : Option OutFile) → ¬ (IsOutFault words fault)
    → (fault ≡ Some (StoreFailed one) → ⊥) → (fault ≡ Some (StoreFailed name) → ⊥)
    → IsSomeAnd file (IsFileWith one IsFirst) → IsSomeAnd second (IsOutFile name text)
    → HaveBeenWritten file second old new → LeavesBoth words fault old new one name IsFirst text
both_written words fault old new one name IsFirst text None second other no_first no_second fits fit written = absurd fits
both_written words fault old new one name IsFirst text (Some file) None other no_first no_second fits fit written = absurd fit
both_written words fault old new one name IsFirst text (Some file) (Some it) other no_first no_second fits fit written = record {
  stil = file.bytes;
  is_stil = fits.holds;
  first_failed = λ failed. absurd (no_first failed);
  second_failed = λ failed. absurd (no_second failed);
  both = λ none. record {
    between = written.between;
    first_is = subst (λ (named : List ℕ). ChangesOnly old written.between named (Some file.bytes)) fits.name_is written.first_is;
    second_is = rw (fit.name_is, fit.bytes_are) at written.second_is;
  };
}

-- where the files were written, the work left them as it should
leaves_written : (words : List (List ℕ)) (fault : Option Fault) (old new : Option Files) (done : Done) (file second : Option OutFile)
    → IsAsked words old done → ¬ (IsOutFault words fault) → HasFiles words done file second → HaveBeenWritten file second old new
    → LeavesFiles words fault old new done
leaves_written words fault old new (Respond values) file second asked other fits written = no_files file second old new fits.first_is fits.second_is written
leaves_written words fault old new (Pair values) file second asked other fits written = no_files file second old new fits.first_is fits.second_is written
leaves_written words fault old new (Defects names) file second asked other fits written = no_files file second old new fits.first_is fits.second_is written
leaves_written words fault old new (Check chip chains) file second asked other fits written = no_files file second old new fits.first_is fits.second_is written
leaves_written words fault old new (Simulate chip ends) file second asked other fits written = no_files file second old new fits.first_is fits.second_is written
leaves_written words fault old new (Replay chip ends) file second asked other fits written = no_files file second old new fits.first_is fits.second_is written
leaves_written words fault old new (Make chip pairs aims verdicts) file second asked other fits written = no_files file second old new fits.first_is fits.second_is written
leaves_written words fault old new Help file second asked other fits written = no_files file second old new fits.first_is fits.second_is written
leaves_written words fault old new Version file second asked other fits written = no_files file second old new fits.first_is fits.second_is written
leaves_written words fault old new (Matrix matrix) file second asked other fits written =
    text_written words fault old new (out_word words) (text_of matrix) file other fits.first_is (one_file file second old new fits.second_is written)
leaves_written words fault old new (Flatten chip net) file second asked other fits written =
    text_written words fault old new (flat_out_word words) (flat_text net) file other fits.first_is (one_file file second old new fits.second_is written)
leaves_written words fault old new (Grade chip chains pairs grades) file second asked other fits written =
    text_written words fault old new (report_word words) (grades_text chip grades) file other fits.first_is (one_file file second old new fits.second_is written)
leaves_written words fault old new (Diagnose chip chains pairs log candidates line) file second asked other fits written =
    text_written words fault old new (candidates_word words) (candidates_text chip (task_of chip 0).defects candidates) file other fits.first_is
    (one_file file second old new fits.second_is written)
leaves_written words fault old new (Atpg chip chains pairs aims verdicts) file second asked other fits written =
    both_written words fault old new (stil_word words) (report_word words) (IsStil chip chains pairs) (report_of chip verdicts) file second other
    (λ failed. other (stil_word words, (inr (inr (inl (asked.0, inl refl))), failed)))
    (λ failed. other (report_word words, (inr (inr (inl (asked.0, inr refl))), failed)))
    fits.first_is fits.second_is written
leaves_written words fault old new (Verify chip chains pairs certificate answer line) file second asked other fits written =
    no_files file second old new fits.first_is fits.second_is written
leaves_written words fault old new (Certify chip chains pairs aims certificate) file second asked other fits written =
    both_written words fault old new (stil_word words) (cert_word words) (IsStil chip chains pairs) (certificate_text certificate) file second other
    (λ failed. other (stil_word words, (inr (inr (inr (inr (inr (inl (asked.0, inl refl)))))), failed)))
    (λ failed. other (cert_word words, (inr (inr (inr (inr (inr (inl (asked.0, inr refl)))))), failed)))
    fits.first_is fits.second_is written
leaves_written words fault old new (Bridges chip chains bridges pairs aims verdicts) file second asked other fits written =
    both_written words fault old new (bridges_stil_word words) (bridges_report_word words) (IsStil chip chains pairs)
    (bridges_report chip bridges verdicts) file second other
    (λ failed. other (bridges_stil_word words, (inr (inr (inr (inr (inr (inr (asked.0, inl refl)))))), failed)))
    (λ failed. other (bridges_report_word words, (inr (inr (inr (inr (inr (inr (asked.0, inr refl)))))), failed)))
    fits.first_is fits.second_is written

-- what is known of a writing that failed: the command writes a file of this name, and a part of its text may
-- stand in it
record HasFailed (words : List (List ℕ)) (before after : ℕ) (fault : Fault) (Leaves : Type 0) : Type 0 where
  pub name : List ℕ
  pub out : HasOut words name
  pub fault_is : fault ≡ StoreFailed name
  pub rose : Rose before after
  pub leaves : Leaves

failed_text : (words : List (List ℕ)) (before after : ℕ) (old new : Option Files) (fault : Fault) (name text : List ℕ)
    (file : OutFile) → HasOut words name → IsOutFile name text file → FailsToWrite old new before after fault file
    → HasFailed words before after fault (LeavesText words (Some fault) old new name text)
failed_text words before after old new fault name text file out fits failed =
    let named : fault ≡ StoreFailed name = failed.fault_is ∙ ap StoreFailed fits.typed_is in
    let part : MayWrite old new name text = rw (fits.name_is, fits.bytes_are) at failed.part in
    record {
      name = name;
      out = out;
      fault_is = named;
      rose = failed.rose;
      leaves = (λ reported. part, λ other. absurd (other (name, (out, ap Some named))));
    }

-- where there is no file no writing failed
no_failure : (file second : Option OutFile) (old new : Option Files) (before after : ℕ) (fault : Fault) → IsNone file → IsNone second
    → FailToWrite old new before after fault file second → ⊥
no_failure None second old new before after fault none no_second (inl failed) = failed
no_failure (Some it) second old new before after fault none no_second (inl failed) = true≢false none
no_failure file None old new before after fault none no_second (inr following) = following.second_is
no_failure file (Some it) old new before after fault none no_second (inr following) = true≢false no_second

-- where there is one it is the one whose writing failed
one_failure : (file second : Option OutFile) (old new : Option Files) (before after : ℕ) (fault : Fault) → IsNone second
    → FailToWrite old new before after fault file second → IsSomeAnd file (FailsToWrite old new before after fault)
one_failure file second old new before after fault none (inl failed) = failed
one_failure file None old new before after fault none (inr following) = absurd following.second_is
one_failure file (Some it) old new before after fault none (inr following) = absurd (true≢false none)

text_failed : (words : List (List ℕ)) (before after : ℕ) (old new : Option Files) (fault : Fault) (name text : List ℕ) (file : Option OutFile)
    → HasOut words name → IsSomeAnd file (IsOutFile name text) → IsSomeAnd file (FailsToWrite old new before after fault)
    → HasFailed words before after fault (LeavesText words (Some fault) old new name text)
text_failed words before after old new fault name text None out fits failed = absurd fits
text_failed words before after old new fault name text (Some file) out fits failed = failed_text words before after old new fault name text file out fits failed

other_names : (one other : List ℕ) → (other ≡ one → ⊥) → StoreFailed one ≡ StoreFailed other → ⊥
other_names one other differ same = let names : one ≡ other = cc in differ (sym names)

-- the writing of the first of two files failed, or that of the second
both_failed : (words : List (List ℕ)) (before after : ℕ) (old new : Option Files) (fault : Fault) (one name : List ℕ) (IsFirst : List ℕ → Type 0) (text : List ℕ)
    (file second : Option OutFile) → HasOut words one → HasOut words name → (name ≡ one → ⊥)
    → IsSomeAnd file (IsFileWith one IsFirst)
    → IsSomeAnd second (IsOutFile name text) → FailToWrite old new before after fault file second
    → HasFailed words before after fault (LeavesBoth words (Some fault) old new one name IsFirst text)
both_failed words before after old new fault one name IsFirst text None second out out_too others fits fit failed = absurd fits
both_failed words before after old new fault one name IsFirst text (Some file) None out out_too others fits fit failed = absurd fit
both_failed words before after old new fault one name IsFirst text (Some file) (Some it) out out_too others fits fit (inl failed) =
    let named : fault ≡ StoreFailed one = failed.fault_is ∙ ap StoreFailed fits.typed_is in
    record {
      name = one;
      out = out;
      fault_is = named;
      rose = failed.rose;
      leaves = record {
        stil = file.bytes;
        is_stil = fits.holds;
        first_failed = λ same. subst (λ (word : List ℕ). MayWrite old new word file.bytes) fits.name_is failed.part;
        second_failed = λ same. absurd (other_names one name others (sym named ∙ same_Some fault (StoreFailed name) same));
        both = λ none. absurd (none (one, (out, ap Some named)));
      };
    }
both_failed words before after old new fault one name IsFirst text (Some file) (Some it) out out_too others fits fit (inr following) =
    let failed = following.second_is in
    let named : fault ≡ StoreFailed name = failed.fault_is ∙ ap StoreFailed fit.typed_is in
    record {
      name = name;
      out = out_too;
      fault_is = named;
      rose = failed.rose;
      leaves = record {
        stil = file.bytes;
        is_stil = fits.holds;
        first_failed = λ same. absurd (other_names one name others (sym (same_Some fault (StoreFailed one) same) ∙ named));
        second_failed = λ same. record {
          between = following.between;
          first_is = subst (λ (word : List ℕ). ChangesOnly old following.between word (Some file.bytes)) fits.name_is following.first_is;
          second_is = rw (fit.name_is, fit.bytes_are) at failed.part;
        };
        both = λ none. absurd (none (name, (out_too, ap Some named)));
      };
    }

failed_writing : (words : List (List ℕ)) (before after : ℕ) (old new : Option Files) (fault : Fault) (done : Done) (file second : Option OutFile)
    → HasFiles words done file second → IsAsked words old done → FailToWrite old new before after fault file second
    → HasFailed words before after fault (LeavesFiles words (Some fault) old new done)
failed_writing words before after old new fault (Respond values) file second fits asked failed =
    absurd (no_failure file second old new before after fault fits.first_is fits.second_is failed)
failed_writing words before after old new fault (Pair values) file second fits asked failed =
    absurd (no_failure file second old new before after fault fits.first_is fits.second_is failed)
failed_writing words before after old new fault (Defects names) file second fits asked failed =
    absurd (no_failure file second old new before after fault fits.first_is fits.second_is failed)
failed_writing words before after old new fault (Check chip chains) file second fits asked failed =
    absurd (no_failure file second old new before after fault fits.first_is fits.second_is failed)
failed_writing words before after old new fault (Simulate chip ends) file second fits asked failed =
    absurd (no_failure file second old new before after fault fits.first_is fits.second_is failed)
failed_writing words before after old new fault (Replay chip ends) file second fits asked failed =
    absurd (no_failure file second old new before after fault fits.first_is fits.second_is failed)
failed_writing words before after old new fault (Make chip pairs aims verdicts) file second fits asked failed =
    absurd (no_failure file second old new before after fault fits.first_is fits.second_is failed)
failed_writing words before after old new fault Help file second fits asked failed =
    absurd (no_failure file second old new before after fault fits.first_is fits.second_is failed)
failed_writing words before after old new fault Version file second fits asked failed =
    absurd (no_failure file second old new before after fault fits.first_is fits.second_is failed)
failed_writing words before after old new fault (Matrix matrix) file second fits asked failed =
    text_failed words before after old new fault (out_word words) (text_of matrix) file (inl (asked.0, refl)) fits.first_is
    (one_failure file second old new before after fault fits.second_is failed)
failed_writing words before after old new fault (Flatten chip net) file second fits asked failed =
    text_failed words before after old new fault (flat_out_word words) (flat_text net) file (inr (inl (asked.0, refl))) fits.first_is
    (one_failure file second old new before after fault fits.second_is failed)
failed_writing words before after old new fault (Grade chip chains pairs grades) file second fits asked failed =
    text_failed words before after old new fault (report_word words) (grades_text chip grades) file (inr (inr (inr (inl (asked.0, refl))))) fits.first_is
    (one_failure file second old new before after fault fits.second_is failed)
failed_writing words before after old new fault (Diagnose chip chains pairs log candidates line) file second fits asked failed =
    text_failed words before after old new fault (candidates_word words) (candidates_text chip (task_of chip 0).defects candidates) file
    (inr (inr (inr (inr (inl (asked.0, refl)))))) fits.first_is
    (one_failure file second old new before after fault fits.second_is failed)
failed_writing words before after old new fault (Atpg chip chains pairs aims verdicts) file second fits asked failed =
    both_failed words before after old new fault (stil_word words) (report_word words) (IsStil chip chains pairs) (report_of chip verdicts) file second
    (inr (inr (inl (asked.0, inl refl)))) (inr (inr (inl (asked.0, inr refl)))) asked.0.others fits.first_is fits.second_is failed
failed_writing words before after old new fault (Verify chip chains pairs certificate answer line) file second fits asked failed =
    absurd (no_failure file second old new before after fault fits.first_is fits.second_is failed)
failed_writing words before after old new fault (Certify chip chains pairs aims certificate) file second fits asked failed =
    both_failed words before after old new fault (stil_word words) (cert_word words) (IsStil chip chains pairs) (certificate_text certificate) file second
    (inr (inr (inr (inr (inr (inl (asked.0, inl refl))))))) (inr (inr (inr (inr (inr (inl (asked.0, inr refl))))))) asked.0.others fits.first_is fits.second_is failed
failed_writing words before after old new fault (Bridges chip chains bridges pairs aims verdicts) file second fits asked failed =
    both_failed words before after old new fault (bridges_stil_word words) (bridges_report_word words) (IsStil chip chains pairs)
    (bridges_report chip bridges verdicts) file second
    (inr (inr (inr (inr (inr (inr (asked.0, inl refl))))))) (inr (inr (inr (inr (inr (inr (asked.0, inr refl))))))) asked.0.others fits.first_is fits.second_is failed

module _ (words : List (List ℕ)) (before after : Outside) (done : Done) (file second : Option OutFile) (end : Finished)
    (fits : HasFiles words done file second) (asked : IsAsked words before.files done) (reported : end.done ≡ Some done)
    (status : end.status ≡ status_reported end.fault) where
  only_done : (it : Done) → end.done ≡ Some it → it ≡ done
  only_done it is = same_Some it done (sym is ∙ reported)

  some_done : IsSome end.done
  some_done = ap is_some reported

  module _ (text : List ℕ) (reports : IsReported done text) (written : HaveBeenWritten file second before.files after.files)
      (quiet : after.store_faults ≡ before.store_faults) (of_sink : ReportsSinkFault end.fault before.sink_faults after.sink_faults) where
    quiet_store : ReportsStoreFault end.fault before.store_faults after.store_faults
    quiet_store = record { reported = λ more. absurd (omega (arith, more, quiet)); later = omega (arith, quiet) }

    was_written : ¬ (IsOutFault words end.fault) → Writes words end before.files after.files
    was_written other = record {
      done = rw reported (leaves_written words end.fault before.files after.files done file second asked other fits written);
      nothing = λ none. absurd (true≢false (sym some_done ∙ none));
    }

    pub printed_ends : HasPrinted text before.bytes after.bytes end
        ⊎ FailsToPrint text before.bytes after.bytes before.sink_faults after.sink_faults end → EndsWork words before after done end
    printed_ends (inl printed) =
        let zero : end.status ≡ 0 = status ∙ ap status_reported printed.fault_is in
        let other : ¬ (IsOutFault words end.fault) = λ out. none_is_some (sym printed.fault_is ∙ out.1.1) in
        record {
          answer = record { status = status; done = (λ some. inl zero, λ said. some_done) };
          same = only_done;
          prints = record {
            all = λ it is whole. (text, (rw (only_done it is) reports, printed.all));
            part = λ it is failed. absurd (none_is_some (sym printed.fault_is ∙ failed));
            nothing = λ failed fault. absurd (failed zero);
          };
          writes = was_written other;
          cause = rw printed.fault_is tt;
          of_store = quiet_store;
          of_sink = of_sink;
        }
    printed_ends (inr failed) =
        let four : end.status ≡ 4 = status ∙ ap status_reported failed.fault_is in
        let other : ¬ (IsOutFault words end.fault) = λ out. sink_is_no_store (same_Some _ _ (sym failed.fault_is ∙ out.1.1)) in
        record {
          answer = record { status = status; done = (λ some. inr (inl failed.fault_is), λ said. some_done) };
          same = only_done;
          prints = record {
            all = λ it is zero. absurd (omega (arith, zero, four));
            part = λ it is fault. (text, (rw (only_done it is) reports, failed.part));
            nothing = λ nonzero fault. absurd (fault failed.fault_is);
          };
          writes = was_written other;
          cause = rw failed.fault_is (inr failed.rose);
          of_store = quiet_store;
          of_sink = of_sink;
        }

  pub unwritten_ends : (fault : Fault) → end.fault ≡ Some fault
      → FailToWrite before.files after.files before.store_faults after.store_faults fault file second
      → before.store_faults ≤ after.store_faults → after.sink_faults ≡ before.sink_faults → after.bytes ≡ before.bytes
      → EndsWork words before after done end
  unwritten_ends fault is failed later quiet kept =
      let facts = failed_writing words before.store_faults after.store_faults before.files after.files fault done file second fits asked failed in
      let fault_is : end.fault ≡ Some (StoreFailed facts.name) = is ∙ ap Some facts.fault_is in
      let four : end.status ≡ 4 = status ∙ ap status_reported fault_is in
      record {
        answer = record { status = status; done = (λ some. inr (inr (facts.name, (facts.out, fault_is))), λ said. some_done) };
        same = only_done;
        prints = record {
          all = λ it done_is zero. absurd (omega (arith, zero, four));
          part = λ it done_is sink. absurd (sink_is_no_store (same_Some _ _ (sym sink ∙ fault_is)));
          nothing = λ nonzero other. kept;
        };
        writes = record {
          done = rw reported (subst (λ shown. LeavesFiles words shown before.files after.files done) (sym is) facts.leaves);
          nothing = λ none. absurd (true≢false (sym some_done ∙ none));
        };
        cause = rw fault_is (inl (facts.out, facts.rose));
        of_store = record { reported = λ more. rw fault_is tt; later = later };
        of_sink = record { reported = λ more. absurd (omega (arith, more, quiet)); later = omega (arith, quiet) };
      }

-- work that was asked for was reported
pub work_asked : (words : List (List ℕ)) (files : Option Files) (done : Done) (reported : Option Done) → ForSome reported (λ it. it ≡ done)
    → IsAsked words files done → IfSome reported (IsAsked words files)
work_asked words files done None same asked = tt
work_asked words files done (Some it) same asked = rw (same it refl) asked

-- work that is whole is refused for a cause of writing or printing
pub work_cause : (words : List (List ℕ)) (before after : Outside) (reported : Option Fault)
    → IfSome reported (λ fault. IsWriteCause words before.store_faults after.store_faults fault ⊎ IsPrintCause before.sink_faults after.sink_faults fault)
    → IfSome reported (IsCause words before after)
work_cause words before after None cause = tt
work_cause words before after (Some fault) (inl write) = inr (inr (inl write))
work_cause words before after (Some fault) (inr print) = inr (inr (inr print))

-- words are not refused after the work
pub work_has_words : (words : List (List ℕ)) (before after : Outside) (reported : Option Fault)
    → IfSome reported (λ fault. IsWriteCause words before.store_faults after.store_faults fault ⊎ IsPrintCause before.sink_faults after.sink_faults fault)
    → reported ≡ Some BadWords → ⊥
work_has_words words before after None cause same = none_is_some same
work_has_words words before after (Some fault) cause same = at fault cause (same_Some fault BadWords same)
  where
    at : (fault : Fault) → IsWriteCause words before.store_faults after.store_faults fault ⊎ IsPrintCause before.sink_faults after.sink_faults fault
        → fault ≡ BadWords → ⊥
    at fault cause same =
        elim (subst (λ reported. IsWriteCause words before.store_faults after.store_faults reported ⊎ IsPrintCause before.sink_faults after.sink_faults reported) same cause) [
          | inl write ↦ write
          | inr print ↦ print
        ]

memory_is_no_sink : NoMemory ≡ SinkFailed → ⊥
memory_is_no_sink same = cc

memory_is_no_out : (words : List (List ℕ)) → ¬ (IsOutFault words (Some NoMemory))
memory_is_no_out words (name, (out, same)) = let bad = same_Some NoMemory (StoreFailed name) same in cc

-- work whose lines found no memory is refused before it is written
pub refused_ends : (words : List (List ℕ)) (before : Outside) (done : Done) (end : Finished) → end.fault ≡ Some NoMemory
    → end.status ≡ status_of NoMemory → IsNone end.done → EndsWork words before before done end
refused_ends words before done end is status none = record {
  answer = refused_answer words end NoMemory is status none memory_is_no_sink (memory_is_no_out words);
  same = none_for end.done _ none;
  prints = refused_prints words end NoMemory is status none before.bytes;
  writes = refused_writes words end NoMemory is status none before.files;
  cause = rw is (inr tt);
  of_store = record { reported = λ more. absurd (omega (arith, more)); later = omega arith };
  of_sink = record { reported = λ more. absurd (omega (arith, more)); later = omega arith };
}
