-- What is read into a log that grows.
use Rattle.std.specs.Prelude.{ℕ, ◌≡◌, Bool, true, false, List, Option, Some, None, Result, Ok, Err, ⊤}
use Rattle.ca_log.specs.declared.record.LogRecord.{LogRecord}
use Rattle.ca_log.specs.declared.fault.LogFault.{LogFault}
use Rattle.ca_log.specs.declared.fault.LogFault.TheVariants as fault

-- the log is the one that was wanted, or the number of the first bad record is reported; out of memory is
-- always allowed
abbrev pub ReadsInto : Result ⊤ LogFault → List LogRecord → Result (List LogRecord) ℕ → Type 0
ReadsInto (Ok done) log wanted = wanted ≡ Ok log
ReadsInto (Err (fault.BadLogRow row)) log wanted = wanted ≡ Err row
ReadsInto (Err fault.NoMemory) log wanted = Unit {0}

-- the record joined those before it, or it can't
abbrev pub Joins : Bool → Option (List LogRecord) → List LogRecord → Type 0
Joins true wanted log = wanted ≡ Some log
Joins false wanted log = wanted ≡ None
