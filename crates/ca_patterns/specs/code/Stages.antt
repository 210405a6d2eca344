-- Why a text has no patterns of a chip, and why patterns are wrong. Private functions and proofs cite this.
use Rattle.std.specs.Prelude.{◌≡◌, ◌⊎◌, ℕ, List}
use Rattle.ca_linked.specs.Linked.{LinkedChip}
use Rattle.ca_view.specs.Core.{core_of}
use Rattle.ca_expected.specs.declared.wrong.WrongValue.{WrongValue}
use Rattle.ca_expected.specs.Wrong.{IsFirstWrong}
use Rattle.ca_stil_pairs.specs.declared.file.StilFile.{StilFile}
use Rattle.ca_fault.specs.declared.fault.Fault.{Fault}
use Rattle.ca_fault.specs.declared.fault.Fault.TheVariants.{Expected, NoMemory}
use Rattle.ca_patterns.specs.Patterns.{IsStilFault, IsStilCause}

-- why a text has no patterns of a chip
abbrev pub IsTextStage : LinkedChip → List (List ℕ) → List ℕ → Fault → Type 0
IsTextStage chip chains bytes fault =
    (fault ≡ NoMemory) ⊎ (IsStilFault fault × IsStilCause chip chains fault bytes)

-- why patterns are wrong
abbrev pub IsValueStage : LinkedChip → StilFile → Fault → Type 0
IsValueStage chip file (Expected pair output) =
    IsFirstWrong (core_of chip) file.pairs file.expected (record { pair = pair; output = output })
IsValueStage chip file fault = fault ≡ NoMemory
