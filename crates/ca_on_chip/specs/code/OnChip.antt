-- Words of the code beside those of `specs/OnChip.antt`. Private functions and proofs cite them.
use Rattle.std.specs.Prelude.{◌≡◌, ◌⊎◌, ℕ, List}
use Rattle.ca_linked.specs.Linked.{LinkedChip}
use Rattle.ca_fault.specs.declared.fault.Fault.{Fault}
use Rattle.ca_fault.specs.declared.fault.Fault.TheVariants.{NoMemory}
use Rattle.ca_on_chip.specs.OnChip.{IsSimulationCause}

-- the causes of a simulation, or there was no memory
abbrev pub IsSimulationStage : List ℕ → List ℕ → List ℕ → List ℕ → LinkedChip → Fault → Type 0
IsSimulationStage instance defect first last chip fault =
    (fault ≡ NoMemory) ⊎ IsSimulationCause instance defect first last fault chip
