-- The law by which good verdicts on the shorts of merged chips are good for the bridges.
use Rattle.std.specs.Prelude.{ℕ, Bool, List, length}
use Rattle.ca_flat.specs.Chip.{IsChip}
use Rattle.ca_linked.specs.Linked.{LinkedChip}
use Rattle.ca_view.specs.Core.{core_of}
use Rattle.ca_credit.specs.declared.verdict.Verdict.{Verdict}
use Rattle.ca_credit.specs.Defects.{Task}
use Rattle.ca_credit.specs.Good.{IsGood}
use Rattle.ca_cluster.specs.declared.bridge.Bridge.{Bridge}
use Rattle.ca_targets.specs.declared.target.Target.{Target}
use Rattle.ca_targets.specs.declared.target.Cluster.{Cluster}
use Rattle.ca_targets.specs.Targets.{AreTargetsOf}
use Rattle.ca_bridge_verdicts.specs.declared.verdict.BridgeVerdict.{BridgeVerdict}
use Rattle.ca_bridges.specs.Numbers.{AreNumbers, IsTaskOf, ArePut, AreAimsAt}
use Rattle.ca_bridge_verdicts.specs.Promise.{AreGoodVerdicts}

-- Of bridges that are these targets: where the promise of test generation is kept for their shorts, each of
-- its cluster's chip, and the verdicts and the aims are put among those of all bridges, the promise of
-- bridges is kept.
abbrev pub ShortsJudgeBridges : Type 0
ShortsJudgeBridges =
    (chip : LinkedChip) (rank : ℕ → ℕ) (budget : ℕ) (bridges : List Bridge) (targets : List Target)
    (clusters : List Cluster) (numbers : List ℕ) (task : Task) (pairs : List (List Bool)) (aims : List ℕ)
    (given : List Verdict) (places : List ℕ) (verdicts : List BridgeVerdict)
    → IsChip (core_of chip) rank → AreTargetsOf chip bridges targets clusters
    → AreNumbers targets (length targets) numbers → IsTaskOf chip budget targets clusters numbers task
    → IsGood task pairs aims given → ArePut targets numbers given verdicts → AreAimsAt numbers aims places
    → AreGoodVerdicts chip budget bridges pairs places verdicts
