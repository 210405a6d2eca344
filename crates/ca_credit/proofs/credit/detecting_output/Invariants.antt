use Rattle.std.proofs.Common.{◌≡◌, ℕ, ◌<◌, Some}
use Rattle.std.specs.Prelude.{slice_index}
use Rattle.ca_flat.specs.declared.chip_defect.ChipDefect.{ChipDefect}
use Rattle.ca_flat.specs.Pair.{DetectsAt}
use Rattle.ca_credit.proofs.credit.detecting_output.Given as goal

abbrev pub invariant-loop-output : goal.invariant-loop-output
invariant-loop-output g l =
    (defect : ChipDefect) (k : ℕ) → g.S.Simulator.aimed l.sim ≡ Some defect → k < l.output
    → ¬ (DetectsAt (g.S.Simulator.aimed_in l.sim) defect (g.S.Simulator.bits l.sim)
    (slice_index (g.S.Simulator.task l.sim).chip.outputs k))
