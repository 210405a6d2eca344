use Rattle.std.proofs.Common.{◌≡◌, ◌≤◌, Some, take}
use Rattle.ca_flat.specs.declared.chip_defect.ChipDefect.{ChipDefect}
use Rattle.ca_diag.specs.Candidates.{AreSoMany}
use Rattle.ca_diag.specs.code.Judged.{FailsAt}
use Rattle.ca_diag.proofs.predict.explained.Given as goal

abbrev pub invariant-loop-k : goal.invariant-loop-k
invariant-loop-k g l = record {
  few : l.count ≤ l.k;
  counted : (defect : ChipDefect) → g.S.Simulator.aimed l.sim ≡ Some defect
      → AreSoMany (FailsAt (g.S.Simulator.task l.sim).chip defect (g.S.Simulator.bits l.sim)) (take l.k l.failing.outputs.now) l.count;
}
