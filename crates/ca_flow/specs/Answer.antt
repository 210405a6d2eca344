-- What the program answers.
use Rattle.std.specs.Prelude.{◌≡◌, ◌⊎◌, ℕ, List, Option, Some, None}
use Rattle.ca_store.specs.Store.{Rose, appended, AppendsPart}
use Rattle.ca_fault.specs.declared.fault.Fault.{Fault}
use Rattle.ca_flow.specs.declared.finished.Finished.{Finished}
use Rattle.ca_fault.specs.FaultLine.{lines_of}
use Rattle.ca_flow.specs.Fault.{Outside}
use Rattle.ca_flow.specs.Ends.{Ends}

-- the error output, by the bytes that it holds, where they are known, and how often it failed
pub record Errors : Type 0 where
  pub bytes : Option (List ℕ)
  pub faults : ℕ

-- the error output got the lines of the fault: its line and, where it carries names, the line with them; or
-- it failed and got a first part of the lines
abbrev pub ReportsLines : Fault → Errors → Errors → Type 0
ReportsLines fault old new = (new.bytes ≡ appended (lines_of fault) old.bytes)
    ⊎ (AppendsPart (lines_of fault) old.bytes new.bytes × Rose old.faults new.faults)

-- the error output reports the fault, and nothing where there is none
abbrev pub Reports : Option Fault → Errors → Errors → Type 0
Reports None old new = new ≡ old
Reports (Some fault) old new = ReportsLines fault old new

-- The command of these words ended, the answer is the exit status of its end, and the error output reports
-- its fault.
pub record Answers (words : List (List ℕ)) (before after : Outside) (old new : Errors) (status : ℕ)
    : Type 0 where
  pub end : Finished
  pub ends : Ends words before after end
  pub status_is : status ≡ end.status
  pub reports : Reports end.fault old new
