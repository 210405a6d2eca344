-- What is promised of verdicts on bridges is enough to report them.
use Rattle.std.specs.Prelude.{ℕ, Bool, List}
use Rattle.ca_linked.specs.Linked.{LinkedChip}
use Rattle.ca_cluster.specs.declared.bridge.Bridge.{Bridge}
use Rattle.ca_targets.specs.Targets.{AreKnown}
use Rattle.ca_bridge_verdicts.specs.declared.verdict.BridgeVerdict.{BridgeVerdict}
use Rattle.ca_bridge_verdicts.specs.Promise.{AreGoodVerdicts}
use Rattle.ca_bridge_report.specs.BridgeReport.{AreReported}

-- verdicts on bridges of library instances that keep their promise may be reported
abbrev pub GoodBridgesAreReported : Type 0
GoodBridgesAreReported =
    (chip : LinkedChip) (budget : ℕ) (bridges : List Bridge) (pairs : List (List Bool)) (aims : List ℕ)
    (verdicts : List BridgeVerdict)
    → AreKnown chip bridges → AreGoodVerdicts chip budget bridges pairs aims verdicts
    → AreReported chip bridges verdicts
