use Rattle.std.proofs.Common.{◌≡◌}
use Rattle.ca_diag.specs.code.Pass.{IsPassTo}
use Rattle.ca_diag.proofs.pass.pass.Given as goal

abbrev pub invariant-loop-k : goal.invariant-loop-k
invariant-loop-k g l = record {
  task : g.S.Simulator.task l.sim ≡ g.S.Simulator.task l.fn.sim;
  bits : g.S.Simulator.bits l.sim ≡ g.S.Simulator.bits l.fn.sim;
  passed : IsPassTo (g.S.Simulator.task l.fn.sim) (g.S.Simulator.bits l.fn.sim) l.failing.outputs.now l.fn.list.items l.k l.kept
      l.list.items;
}
