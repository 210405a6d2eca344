-- Words of the code beside those of `specs/Replay.antt`. Private functions and proofs cite them.
use Rattle.std.specs.Prelude.{◌⊎◌, ℕ, List, Option}
use Rattle.ca_store.specs.Store.{Files}
use Rattle.ca_linked.specs.Linked.{LinkedChip}
use Rattle.ca_fault.specs.declared.fault.Fault.{Fault}
use Rattle.ca_fault.specs.declared.fault.Fault.TheVariants.{Order}
use Rattle.ca_load.specs.Files.{OfFile, IsReadCause}
use Rattle.ca_on_chip.specs.declared.replays.TheConstants.{MAX_ORDER}
use Rattle.ca_on_chip.specs.code.OnChip.{IsSimulationStage}
use Rattle.ca_on_chip.specs.Replay.{HasFaultyLine, HasRun}

-- why the file of events gives none for the run of the chip that the words name: its first faulty line, or it
-- could not be read
abbrev pub IsOrderStage : List ℕ → List ℕ → List ℕ → List ℕ → List ℕ → LinkedChip → Option Files → ℕ → ℕ
    → Fault
    → Type 0
IsOrderStage instance defect first last order chip files before after (Order line) =
    OfFile files order MAX_ORDER (HasFaultyLine instance defect first last line chip)
IsOrderStage instance defect first last order chip files before after fault =
    HasRun instance defect first last chip × IsReadCause order files MAX_ORDER before after fault

-- why a chip has no such run: the file comes after the words
abbrev pub IsRunStage : List ℕ → List ℕ → List ℕ → List ℕ → List ℕ → LinkedChip → Option Files → ℕ → ℕ → Fault
    → Type 0
IsRunStage instance defect first last order chip files before after fault =
    IsSimulationStage instance defect first last chip fault
    ⊎ IsOrderStage instance defect first last order chip files before after fault
