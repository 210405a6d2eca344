-- Why there are no tests for bridges, from what the stages find.
use Rattle.std.proofs.Common.{ℕ, inl, inr, List, Option, sym, subst}
use Rattle.std.specs.Prelude.{IsSomeAnd}
use Rattle.ca_store.specs.Store.{Files}
use Rattle.ca_linked.specs.declared.parts.Part.{Part}
use Rattle.ca_linked.specs.Linked.{LinkedChip, IsGate, IsLibrary}
use Rattle.ca_linked.specs.Instances.{IsNamedGate}
use Rattle.ca_cluster.specs.declared.bridge.Bridge.{Bridge}
use Rattle.ca_cluster.specs.Bridges.{AreBridgesOf}
use Rattle.ca_targets.specs.Targets.{AreKnown}
use Rattle.ca_fault.specs.declared.fault.Fault.{Fault}
use Rattle.ca_fault.specs.declared.fault.Fault.TheVariants.{NoInstance}
use Rattle.ca_load.specs.Texts.{InputFiles}
use Rattle.ca_request.specs.Asked.{IsInstanceStage, IsInstanceCause}
use Rattle.ca_on_chip.specs.OnChip.{IsTracedChipOf}
use Rattle.ca_on_chip.proofs.AskedLemmas.{of_chip}
use Rattle.ca_bridging.specs.Bridging.{IsInstanceWord, IsBridgesCause}

-- the fault of an instance reports the word
instance_word : (chip : LinkedChip) (instance : List ℕ) (fault : Fault) → IsInstanceCause chip instance fault
    → IsInstanceWord instance fault
instance_word chip instance (NoInstance typed) cause = cause.0
instance_word chip instance fault cause = absurd cause

-- why a chip of the files has no instance of the name
pub at_bridges : (files : Option Files) (names : InputFiles) (before after : ℕ) (chip : LinkedChip) (instance : List ℕ)
    (fault : Fault) → IsTracedChipOf files names chip → IsInstanceStage chip instance fault
    → IsBridgesCause names instance files before after fault
at_bridges files names before after chip instance fault held (inl memory) = inl (inl (inl (inl memory)))
at_bridges files names before after chip instance fault held (inr cause) = inr (
  instance_word chip instance fault cause,
  of_chip files names chip (λ chip. IsInstanceCause chip instance fault) held cause,
)

-- a library instance of a name is one of the library
pub named_library : (chip : LinkedChip) (instance : List ℕ) (u : ℕ) → IsNamedGate chip instance u → IsLibrary chip u
named_library chip instance u is =
    subst (λ (o : Option Part). IsSomeAnd o (λ part. IsGate part.body)) (sym is.at) is.is_gate

-- its bridges are bridges of library instances
pub bridges_known : (chip : LinkedChip) (u : ℕ) (bridges : List Bridge) → AreBridgesOf chip u bridges → AreKnown chip bridges
bridges_known chip u bridges are bridge listed = ((are.listed bridge).0 listed).0
