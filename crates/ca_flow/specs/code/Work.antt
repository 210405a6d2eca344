-- The work of a command before it is written and printed, and how writing and printing end.
use Rattle.std.specs.Prelude.{◌≡◌, ◌⊎◌, ℕ, List, Option, Some, None, IfSome, IsNone, IsSomeAnd}
use Rattle.std.specs.Option.{ForSome}
use Rattle.ca_store.specs.Store.{Files, Rose, appended, AppendsPart}
use Rattle.ca_store.specs.Writing.{ChangesOnly, MayWrite}
use Rattle.ca_flat_text.specs.FlatText.{flat_text}
use Rattle.ca_matrix.specs.Text.{text_of}
use Rattle.ca_atpg.specs.Atpg.{IsStil, report_of}
use Rattle.ca_chip_grade.specs.Texts.{grades_text}
use Rattle.ca_engine.specs.ChipTask.{task_of}
use Rattle.ca_chip_diag.specs.Texts.{candidates_text}
use Rattle.ca_cert_text.specs.CertText.{certificate_text}
use Rattle.ca_bridge_report.specs.BridgeReport.{bridges_report}
use Rattle.ca_fault.specs.declared.fault.Fault.{Fault}
use Rattle.ca_fault.specs.declared.fault.Fault.TheVariants.{StoreFailed, SinkFailed}
use Rattle.ca_flow.specs.declared.finished.Done.{Done}
use Rattle.ca_flow.specs.declared.finished.Done.TheVariants.{Matrix, Flatten, Atpg, Grade, Diagnose, Certify}
use Rattle.ca_flow.specs.declared.finished.Done.TheVariants.{Bridges}
use Rattle.ca_flow.specs.declared.finished.Finished.{Finished}
use Rattle.ca_flow.specs.declared.work.OutFile.{OutFile}
use Rattle.ca_words.specs.Words.{out_word, flat_out_word, stil_word, report_word, candidates_word, cert_word}
use Rattle.ca_words.specs.Words.{bridges_stil_word, bridges_report_word}
use Rattle.ca_flow.specs.Finished.{IsAnswer, Prints, Writes, ReportsSinkFault}
use Rattle.ca_flow.specs.Fault.{Outside, IsWriteCause, IsPrintCause}
use Rattle.ca_load.specs.Files.{ReportsStoreFault}

-- the file is to have this name and these bytes
pub record IsOutFile (name bytes : List ℕ) (file : OutFile) : Type 0 where
  pub name_is : file.name.now ≡ name
  pub typed_is : file.typed ≡ name
  pub bytes_are : file.bytes ≡ bytes

-- the file is to have this name, and bytes of which this holds
pub record IsFileWith (name : List ℕ) (Holds : List ℕ → Type 0) (file : OutFile) : Type 0 where
  pub name_is : file.name.now ≡ name
  pub typed_is : file.typed ≡ name
  pub holds : Holds file.bytes

-- the file that work of these words is to be written to, the first where there are two
abbrev pub HasFile : List (List ℕ) → Done → Option OutFile → Type 0
HasFile words (Matrix matrix) file = IsSomeAnd file (IsOutFile (out_word words) (text_of matrix))
HasFile words (Flatten chip net) file = IsSomeAnd file (IsOutFile (flat_out_word words) (flat_text net))
HasFile words (Atpg chip chains pairs aims verdicts) file =
    IsSomeAnd file (IsFileWith (stil_word words) (IsStil chip chains pairs))
HasFile words (Grade chip chains pairs grades) file =
    IsSomeAnd file (IsOutFile (report_word words) (grades_text chip grades))
HasFile words (Diagnose chip chains pairs log candidates line) file = IsSomeAnd file
    (IsOutFile (candidates_word words) (candidates_text chip (task_of chip 0).defects candidates))
HasFile words (Certify chip chains pairs aims certificate) file =
    IsSomeAnd file (IsFileWith (stil_word words) (IsStil chip chains pairs))
HasFile words (Bridges chip chains bridges pairs aims verdicts) file =
    IsSomeAnd file (IsFileWith (bridges_stil_word words) (IsStil chip chains pairs))
HasFile words _ file = IsNone file

-- the second
abbrev pub HasSecond : List (List ℕ) → Done → Option OutFile → Type 0
HasSecond words (Atpg chip chains pairs aims verdicts) second =
    IsSomeAnd second (IsOutFile (report_word words) (report_of chip verdicts))
HasSecond words (Certify chip chains pairs aims certificate) second =
    IsSomeAnd second (IsOutFile (cert_word words) (certificate_text certificate))
HasSecond words (Bridges chip chains bridges pairs aims verdicts) second =
    IsSomeAnd second (IsOutFile (bridges_report_word words) (bridges_report chip bridges verdicts))
HasSecond words _ second = IsNone second

-- both
pub record HasFiles (words : List (List ℕ)) (done : Done) (file second : Option OutFile) : Type 0 where
  pub first_is : HasFile words done file
  pub second_is : HasSecond words done second

-- the file, if there is one, was written
abbrev pub HasWritten : Option OutFile → Option Files → Option Files → Type 0
HasWritten None old new = new ≡ old
HasWritten (Some file) old new = ChangesOnly old new file.name.now (Some file.bytes)

-- the writing of the file failed, and the fault names it
pub record FailsToWrite (old new : Option Files) (before after : ℕ) (fault : Fault) (file : OutFile)
    : Type 0 where
  pub fault_is : fault ≡ StoreFailed file.typed
  pub part : MayWrite old new file.name.now file.bytes
  pub rose : Rose before after

-- the files, if there are some, were written, one after the other
pub record HaveBeenWritten (file second : Option OutFile) (old new : Option Files) : Type 0 where
  pub between : Option Files
  pub first_is : HasWritten file old between
  pub second_is : HasWritten second between new

-- the second file could not be written, after the first
pub record FailsAfter (old new : Option Files) (before after : ℕ) (fault : Fault)
    (file second : Option OutFile) : Type 0 where
  pub between : Option Files
  pub first_is : HasWritten file old between
  pub second_is : IsSomeAnd second (FailsToWrite between new before after fault)

-- one of them could not be written
abbrev pub FailToWrite : Option Files → Option Files → ℕ → ℕ → Fault → Option OutFile → Option OutFile
    → Type 0
FailToWrite old new before after fault file second =
    IsSomeAnd file (FailsToWrite old new before after fault)
    ⊎ FailsAfter old new before after fault file second

-- the text was printed
pub record HasPrinted (text : List ℕ) (old new : Option (List ℕ)) (end : Finished) : Type 0 where
  pub fault_is : end.fault ≡ None
  pub all : new ≡ appended text old

-- the output failed at the text
pub record FailsToPrint (text : List ℕ) (old new : Option (List ℕ)) (before after : ℕ) (end : Finished)
    : Type 0 where
  pub fault_is : end.fault ≡ Some SinkFailed
  pub part : AppendsPart text old new
  pub rose : Rose before after

-- how a command of these words ends, once its work is whole
pub record EndsWork (words : List (List ℕ)) (before after : Outside) (done : Done) (end : Finished)
    : Type 0 where
  pub answer : IsAnswer words end
  pub same : ForSome end.done (λ it. it ≡ done)
  pub prints : Prints end before.bytes after.bytes
  pub writes : Writes words end before.files after.files
  pub cause : IfSome end.fault (λ fault. IsWriteCause words before.store_faults after.store_faults fault
      ⊎ IsPrintCause before.sink_faults after.sink_faults fault)
  pub of_store : ReportsStoreFault end.fault before.store_faults after.store_faults
  pub of_sink : ReportsSinkFault end.fault before.sink_faults after.sink_faults
