-- Why a stage fails, over what it was handed: a chip with right patterns, and a text or a file.
use Rattle.std.specs.Prelude.{◌≡◌, ◌⊎◌, ℕ, List, Option}
use Rattle.ca_store.specs.Store.{Files}
use Rattle.ca_net.specs.declared.trit.Trit.{Trit}
use Rattle.ca_linked.specs.Linked.{LinkedChip}
use Rattle.ca_view.specs.Core.{core_of}
use Rattle.ca_expected.specs.Expected.{AreExpected}
use Rattle.ca_stil_pairs.specs.declared.file.StilFile.{StilFile}
use Rattle.ca_fault.specs.declared.fault.Fault.{Fault}
use Rattle.ca_fault.specs.declared.fault.Fault.TheVariants.{NoMemory}
use Rattle.ca_load.specs.Files.{OfFile, IsReadCause}
use Rattle.ca_patterns.specs.code.Stages.{IsValueStage}
use Rattle.ca_diagnosing.specs.declared.logs.TheConstants.{MAX_LOG}
use Rattle.ca_diagnosing.specs.Diagnosing.{IsBadLog, IsLogFault}

-- why a text is no log
abbrev pub IsLogTextStage : LinkedChip → List (List Trit) → List ℕ → Fault → Type 0
IsLogTextStage chip expected bytes fault =
    (fault ≡ NoMemory) ⊎ (IsLogFault fault × IsBadLog chip expected fault bytes)

-- why a file has none
abbrev pub IsLogStage : LinkedChip → List (List Trit) → List ℕ → Option Files → ℕ → ℕ → Fault → Type 0
IsLogStage chip expected name files before after fault =
    IsReadCause name files MAX_LOG before after fault
    ⊎ (IsLogFault fault × OfFile files name MAX_LOG (IsBadLog chip expected fault))

-- why patterns are wrong, or are right and have no log
abbrev pub IsJudgedStage : LinkedChip → StilFile → List ℕ → Option Files → ℕ → ℕ → Fault → Type 0
IsJudgedStage chip file name files before after fault =
    IsValueStage chip file fault
    ⊎ (AreExpected (core_of chip) file.pairs file.expected
    × IsLogStage chip file.expected name files before after fault)
