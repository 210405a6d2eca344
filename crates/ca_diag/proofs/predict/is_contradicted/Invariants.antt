use Rattle.std.proofs.Common.{◌≡◌, ◌<◌, ℕ, Some}
use Rattle.ca_flat.specs.declared.chip_defect.ChipDefect.{ChipDefect}
use Rattle.ca_diag.specs.code.Judged.{IsAgainstAt}
use Rattle.ca_diag.proofs.predict.is_contradicted.Given as goal

abbrev pub invariant-loop-output : goal.invariant-loop-output
invariant-loop-output g l =
    let task = g.S.Simulator.task l.sim in
    (defect : ChipDefect) → g.S.Simulator.aimed l.sim ≡ Some defect → (o : ℕ) → o < l.output
    → ¬ (IsAgainstAt task.chip (g.S.Simulator.bits l.sim) l.failing.outputs.now defect o)
