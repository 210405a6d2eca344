use Rattle.std.proofs.Common.{◌≡◌, ◌≤◌}
use Rattle.std.specs.Prelude.{take}
use Rattle.ca_chip_report.specs.GradeSummary.{grade_count}
use Rattle.ca_chip_report.proofs.grade_summary.grade_count.Given as goal

abbrev pub invariant-loop-k : goal.invariant-loop-k
invariant-loop-k l = record {
  few : l.count ≤ l.k;
  counted : l.count ≡ grade_count l.kind (take l.k l.grades);
}
