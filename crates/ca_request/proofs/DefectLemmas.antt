-- Why words name no instance, and so no defect.
use Rattle.std.proofs.Common.{◌≡◌, ◌≢◌, inl, inr, List, ℕ}
use Rattle.ca_linked.specs.Linked.{LinkedChip}
use Rattle.ca_fault.specs.declared.fault.Fault.{Fault}
use Rattle.ca_fault.specs.declared.fault.Fault.TheVariants.{NoInstance}
use Rattle.ca_request.specs.Vectors.{dash}
use Rattle.ca_request.specs.Asked.{IsInstanceStage, IsInstanceCause, IsDefectStage}

-- where a word names no instance, it names none with a defect
pub unnamed : (chip : LinkedChip) (instance defect : List ℕ) (fault : Fault) → instance ≢ dash
    → IsInstanceStage chip instance fault → IsDefectStage chip instance defect fault
unnamed chip instance defect fault some (inl memory) = inl memory
unnamed chip instance defect (NoInstance typed) some (inr cause) = inr (cause.0, (some, cause.1))
unnamed chip instance defect fault some (inr cause) = absurd cause
