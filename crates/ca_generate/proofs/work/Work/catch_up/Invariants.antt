use Rattle.std.proofs.Common.{◌≡◌}
use Rattle.ca_generate.specs.code.Progress.{StandsTo}
use Rattle.ca_generate.proofs.work.Work.catch_up.Given as goal

abbrev pub invariant-loop-number : goal.invariant-loop-number
invariant-loop-number g l = record {
  stands : StandsTo (g.B.Simulator.task l.fn.bench) l.turns l.number l.work;
  same : l.work.pairs ≡ l.fn.self.pairs;
  task : g.B.Simulator.task l.bench ≡ g.B.Simulator.task l.fn.bench;
}
