use Rattle.std.proofs.Common.{◌≡◌}
use Rattle.ca_expected.specs.code.Wrong.{AreRightRows}
use Rattle.ca_expected.proofs.wrong.first_wrong.Given as goal

abbrev pub invariant-loop-place : goal.invariant-loop-place
invariant-loop-place g l = record {
  task : g.S.Simulator.task l.sim ≡ g.S.Simulator.task l.fn.sim;
  aimed : g.S.Simulator.aimed l.sim ≡ g.S.Simulator.aimed l.fn.sim;
  right : AreRightRows (g.S.Simulator.task l.fn.sim).chip l.pairs l.expected l.place;
}
