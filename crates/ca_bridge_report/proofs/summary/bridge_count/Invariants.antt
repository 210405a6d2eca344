use Rattle.std.proofs.Common.{◌≡◌, ◌≤◌}
use Rattle.std.specs.Prelude.{take}
use Rattle.ca_bridge_report.specs.Summary.{bridge_count}
use Rattle.ca_bridge_report.proofs.summary.bridge_count.Given as goal

abbrev pub invariant-loop-k : goal.invariant-loop-k
invariant-loop-k l = record {
  few : l.count ≤ l.k;
  counted : l.count ≡ bridge_count l.kind (take l.k l.verdicts);
}
