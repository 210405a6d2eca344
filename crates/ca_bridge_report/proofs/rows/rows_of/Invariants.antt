use Rattle.std.proofs.Common.{◌≡◌, take}
use Rattle.ca_bridge_report.specs.BridgeReport.{bridge_rows}
use Rattle.ca_bridge_report.proofs.rows.rows_of.Given as goal

abbrev pub invariant-loop-k : goal.invariant-loop-k
invariant-loop-k l = l.rows ≡ take l.k (bridge_rows l.chip l.bridges l.verdicts)
