use Rattle.std.proofs.Common.{◌≡◌}
use Rattle.ca_expected.specs.code.Kept.{AreFirstRows}
use Rattle.ca_expected.proofs.values.expected.Given as goal

abbrev pub invariant-loop-place : goal.invariant-loop-place
invariant-loop-place g l = (g.S.Simulator.task l.sim ≡ g.S.Simulator.task l.fn.sim)
    × (g.S.Simulator.aimed l.sim ≡ g.S.Simulator.aimed l.fn.sim)
    × AreFirstRows (g.S.Simulator.task l.fn.sim).chip l.pairs l.place l.rows
