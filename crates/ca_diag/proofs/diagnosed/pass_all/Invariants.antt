use Rattle.std.proofs.Common.{◌≡◌, length}
use Rattle.ca_diag.specs.code.Pass.{AreOpen}
use Rattle.ca_diag.proofs.diagnosed.pass_all.Given as goal

abbrev pub invariant-loop-place : goal.invariant-loop-place
invariant-loop-place g l = record {
  task : g.S.Simulator.task l.sim ≡ g.S.Simulator.task l.fn.sim;
  room : length l.marks.items ≡ length l.fn.marks.items;
  passed : AreOpen l.place (g.S.Simulator.task l.fn.sim) l.pairs l.log l.list.items;
}
