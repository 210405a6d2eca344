use Rattle.std.proofs.Common.{◌≡◌}
use Rattle.ca_credit.proofs.lanes.keep_pairs_from.Given as goal

abbrev pub invariant-loop-k : goal.invariant-loop-k
invariant-loop-k g l = record {
  task : g.S.Simulator.task l.sim ≡ g.S.Simulator.task l.fn.sim;
  aimed : g.S.Simulator.aimed l.sim ≡ g.S.Simulator.aimed l.fn.sim;
  bits : g.S.Simulator.bits l.sim ≡ g.S.Simulator.bits l.fn.sim;
  aims : g.S.Simulator.aims l.sim ≡ g.S.Simulator.aims l.fn.sim;
}
