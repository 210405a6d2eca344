use Rattle.std.proofs.Common.{◌≡◌, ◌+◌, length}
use Rattle.ca_credit.specs.Table.{CreditsBlock, credit_count}
use Rattle.ca_credit.specs.Aims.{AimsOverBlock, aimed_after, bits_after}
use Rattle.ca_credit.proofs.credits.Credits.credit_block.Given as goal

abbrev pub invariant-loop-k : goal.invariant-loop-k
invariant-loop-k g l = record {
  credits : CreditsBlock (g.S.Simulator.task l.fn.sim) l.pairs l.from l.fn.self l.k l.self;
  counted : credit_count l.self ≡ credit_count l.fn.self + l.credited;
  as_many : length l.self ≡ length l.fn.self;
  task : g.S.Simulator.task l.sim ≡ g.S.Simulator.task l.fn.sim;
  bits : g.S.Simulator.bits l.sim ≡ bits_after l.pairs l.from l.k (g.S.Simulator.bits l.fn.sim);
  aimed : g.S.Simulator.aimed l.sim ≡ aimed_after l.k (g.S.Simulator.aimed l.fn.sim);
  aims : AimsOverBlock (g.S.Simulator.task l.fn.sim) l.pairs l.from l.fn.self l.k l.self
      (g.S.Simulator.aims l.fn.sim) (g.S.Simulator.aims l.sim);
}
