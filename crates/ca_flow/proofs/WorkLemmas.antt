-- Two files, written one after the other.
use Rattle.std.proofs.Common.{ℕ, ◌≡◌, inl, inr, Option, subst}
use Rattle.std.specs.Prelude.{IsSomeAnd}
use Rattle.ca_store.specs.Store.{Files}
use Rattle.ca_fault.specs.declared.fault.Fault.{Fault}
use Rattle.ca_flow.specs.declared.work.OutFile.{OutFile}
use Rattle.ca_flow.specs.code.Work.{HasWritten, FailsToWrite, HaveBeenWritten, FailToWrite}

module _ (file second : Option OutFile) (old between new : Option Files) where
  pub were_written : HasWritten file old between → HasWritten second between new → HaveBeenWritten file second old new
  were_written first next = record { between = between; first_is = first; second_is = next }

  pub second_fails : (before middle after : ℕ) (fault : Fault) → HasWritten file old between → middle ≡ before
      → IsSomeAnd second (FailsToWrite between new middle after fault) → FailToWrite old new before after fault file second
  second_fails before middle after fault first quiet failed = inr (record {
    between = between;
    first_is = first;
    second_is = subst (λ (count : ℕ). IsSomeAnd second (FailsToWrite between new count after fault)) quiet failed;
  })

pub first_fails : (file second : Option OutFile) (old new : Option Files) (before after : ℕ) (fault : Fault)
    → IsSomeAnd file (FailsToWrite old new before after fault) → FailToWrite old new before after fault file second
first_fails file second old new before after fault failed = inl failed
