-- The laws by which verdicts on shorts of merged chips are verdicts on bridges.
use Rattle.std.specs.Prelude.{ℕ, Bool, List}
use Rattle.ca_flat.specs.Chip.{IsChip}
use Rattle.ca_credit.specs.declared.verdict.Verdict.{Verdict}
use Rattle.ca_credit.specs.Defects.{Task, AreTargets}
use Rattle.ca_credit.specs.Good.{IsGood}
use Rattle.ca_bridge_verdicts.specs.Bridges.{Ends, AreForBridges}
use Rattle.ca_bridge_verdicts.specs.Good.{AreGoodBridges}

-- the chips of defects that are for bridges stand in for the chip
abbrev pub BridgesAreTargets : Type 0
BridgesAreTargets =
    (task : Task) (rank : ℕ → ℕ) (bridges : List Ends) → IsChip task.chip rank → AreForBridges task bridges
    → AreTargets task

-- good verdicts on them are good for the bridges
abbrev pub GoodTargetsAreBridges : Type 0
GoodTargetsAreBridges =
    (task : Task) (rank : ℕ → ℕ) (bridges : List Ends) (pairs : List (List Bool)) (aims : List ℕ)
    (verdicts : List Verdict) → IsChip task.chip rank → AreForBridges task bridges
    → IsGood task pairs aims verdicts → AreGoodBridges task.chip bridges pairs verdicts
