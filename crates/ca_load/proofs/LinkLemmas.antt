-- The causes of a command on a chip, from those of its linking and its tracing.
use Rattle.std.proofs.Common.{ℕ, ◌≡◌, inl, inr, sym, subst, map, Option, Result, Ok, Err}
use Rattle.std.proofs.Common.{IsErrAnd, IfErr, IfOk}
use Rattle.ca_store.specs.Store.{Files}
use Rattle.ca_cell.specs.Library.{raw_of}
use Rattle.ca_linked.specs.Linked.{LinkedChip}
use Rattle.ca_fault.specs.declared.fault.Fault.{Fault}
use Rattle.ca_load.specs.declared.loading.Loaded.{Loaded}
use Rattle.ca_load.specs.Texts.{InputFiles, Inputs, OfInputs}
use Rattle.ca_load.specs.code.Texts.{AreRead}
use Rattle.ca_load.specs.Chips.{IsChipOf}
use Rattle.ca_load.specs.Causes.{IsLoadCause}
use Rattle.ca_load.specs.code.Stages.{IsLinkStage, IsTraceStage, IsLinkedStage}

-- inputs that don't link
pub at_link : (inputs : Inputs) (fault : Fault) → IsLinkStage inputs fault → IsLinkedStage inputs fault
at_link inputs fault (inl memory) = inl memory
at_link inputs fault (inr (is, cause)) = inr (is, inl cause)

-- a chip without chains
pub at_trace : (inputs : Inputs) (chip : LinkedChip) (fault : Fault) → IsChipOf inputs chip → IsTraceStage chip fault
    → IsLinkedStage inputs fault
at_trace inputs chip fault of (inl memory) = inl memory
at_trace inputs chip fault of (inr (is, cause)) = inr (is, inr (record { chip = chip; is = of; cause = cause }))

-- what is traced is the chip that was linked
pub traced_ok : (inputs : Inputs) (chip : LinkedChip) (result : Result Loaded Fault) → IsChipOf inputs chip
    → IfOk result (λ loaded. loaded.chip ≡ chip) → IfOk result (λ loaded. IsChipOf inputs loaded.chip)
traced_ok inputs chip (Ok loaded) of same = subst (IsChipOf inputs) (sym same) of
traced_ok inputs chip (Err fault) of same = tt

pub traced_err : (inputs : Inputs) (chip : LinkedChip) (result : Result Loaded Fault) → IsChipOf inputs chip
    → IfErr result (IsTraceStage chip) → IfErr result (IsLinkedStage inputs)
traced_err inputs chip (Ok loaded) of cause = tt
traced_err inputs chip (Err fault) of cause = at_trace inputs chip fault of cause

-- what holds of the inputs that were read holds of what the files read as
pub of_read : (files : Option Files) (names : InputFiles) (inputs : Inputs) (Holds : Inputs → Type 0)
    → AreRead files names inputs → Holds inputs → OfInputs files names Holds
of_read files names inputs Holds read holds = λ reported is. (inputs, (read reported is, holds))

-- inputs that give no chip with chains
pub at_inputs : (names : InputFiles) (files : Option Files) (before after : ℕ) (inputs : Inputs) (fault : Fault)
    → AreRead files names inputs → IsLinkedStage inputs fault → IsLoadCause names files before after fault
at_inputs names files before after inputs fault read (inl memory) =
    inl (inl (inl memory))
at_inputs names files before after inputs fault read (inr (is, cause)) =
    inr (is, of_read files names inputs _ read cause)

-- a fault that is handed on has its cause
pub handed_on : {T : Type 0} (result : Result T Fault) (fault : Fault) (P : Fault → Type 0)
    → IsErrAnd result (λ other. other ≡ fault) → P fault → IfErr result P
handed_on (Ok value) fault P is cause = absurd is
handed_on (Err other) fault P is cause = subst P (sym is) cause
