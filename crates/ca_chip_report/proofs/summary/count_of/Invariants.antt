use Rattle.std.proofs.Common.{◌≡◌, ◌≤◌}
use Rattle.std.specs.Prelude.{take}
use Rattle.ca_chip_report.specs.Summary.{count_of}
use Rattle.ca_chip_report.proofs.summary.count_of.Given as goal

abbrev pub invariant-loop-k : goal.invariant-loop-k
invariant-loop-k l = record {
  few : l.count ≤ l.k;
  counted : l.count ≡ count_of l.kind (take l.k l.verdicts);
}
