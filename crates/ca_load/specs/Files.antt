-- What is said of a file that was read, and why a file could not be read.
use Rattle.std.specs.Prelude.{◌≡◌, ◌<◌, ◌≤◌, ℕ, List, length, Option, Some, IsSomeAnd, OnOk, IfErr, Result, ⊤}
use Rattle.std.specs.Option.{ForSome}
use Rattle.ca_store.specs.Store.{Files, MayHave, Nothing, Opened, Rose}
use Rattle.ca_store.specs.ReadFault.{IsTooLong}
use Rattle.ca_fault.specs.declared.fault.Fault.{Fault}
use Rattle.ca_fault.specs.declared.fault.Fault.TheVariants.{TooLong, StoreFailed, NoMemory}

-- the file of this name is there with at most this many bytes, and this holds of them
abbrev pub IsFileWith : Files → List ℕ → ℕ → (List ℕ → Type 0) → Type 0
IsFileWith reported name limit Holds =
    IsSomeAnd (reported name) (λ bytes. (length bytes ≤ limit) × Holds bytes)

-- the same, where the files are known
abbrev pub OfFile : Option Files → List ℕ → ℕ → (List ℕ → Type 0) → Type 0
OfFile files name limit Holds = ForSome files (λ reported. IsFileWith reported name limit Holds)

-- why the file of this name could not be read up to a limit, with the store's count of faults before and
-- after
abbrev pub IsReadCause : List ℕ → Option Files → ℕ → ℕ → ℕ → Fault → Type 0
IsReadCause name files limit before after (TooLong word taken) =
    (word ≡ name) × IsTooLong files name limit taken before after
IsReadCause name files limit before after (StoreFailed word) =
    (word ≡ name) × (MayHave files name → Rose before after)
IsReadCause name files limit before after NoMemory = ⊤
IsReadCause name files limit before after _ = ⊥

-- the fault is that of a file
abbrev pub IsStoreFault : Fault → Type 0
IsStoreFault (StoreFailed name) = ⊤
IsStoreFault _ = ⊥

-- where the store's count of faults rose, the answer says so, and the count never falls
pub record ReportsStoreFault (fault : Option Fault) (before after : ℕ) : Type 0 where
  pub reported : before < after → IsSomeAnd fault IsStoreFault
  pub later : before ≤ after

-- A call that reads alone leaves the files as they are and none open. The store's count of faults is as it
-- was where it answers, and rises only where it answers with a fault of the store.
pub record OnlyReads {T : Type 0} (result : Result T Fault) (files_before : Option Files)
    (faults_before : ℕ) (files_after : Option Files) (faults_after : ℕ) (opened_after : Opened) : Type 0 where
  pub quiet : OnOk result (faults_after ≡ faults_before)
  pub reported : IfErr result (λ fault. ReportsStoreFault (Some fault) faults_before faults_after)
  pub closed : opened_after ≡ Nothing
  pub kept : files_after ≡ files_before
