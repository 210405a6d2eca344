use Rattle.std.proofs.Common.{◌≡◌}
use Rattle.ca_expected.specs.code.Wrong.{AreRightRows}
use Rattle.ca_grade.specs.code.Table.{AreVerdictsAfter}
use Rattle.ca_grade.proofs.judged.credit_judged.Given as goal

abbrev pub invariant-loop-place : goal.invariant-loop-place
invariant-loop-place g l = record {
  task : g.B.Simulator.task l.bench ≡ g.B.Simulator.task l.fn.bench;
  after : AreVerdictsAfter (g.B.Simulator.task l.fn.bench) l.pairs l.place l.credits;
  right : AreRightRows (g.B.Simulator.task l.fn.bench).chip l.pairs l.expected l.place;
}
