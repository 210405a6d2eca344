use Rattle.std.proofs.Common.{◌≡◌, ◌-◌, length}
use Rattle.ca_credit.specs.code.Round.{IsRound, TriesMore}
use Rattle.ca_credit.proofs.round.Round.try_after.Given as goal

abbrev pub invariant-places : goal.invariant-places
invariant-places g l = record {
  tries : TriesMore (g.S.Simulator.task l.fn.sim) l.pair l.number l.credited l.fn.self l.self;
  stands : IsRound l.self;
  aimed_in : g.S.Simulator.aimed_in l.sim ≡ g.S.Simulator.aimed_in l.fn.sim;
  aimed : g.S.Simulator.aimed l.sim ≡ g.S.Simulator.aimed l.fn.sim;
  task : g.S.Simulator.task l.sim ≡ g.S.Simulator.task l.fn.sim;
  bits : g.S.Simulator.bits l.sim ≡ g.S.Simulator.bits l.fn.sim;
  aims : g.S.Simulator.aims l.sim ≡ g.S.Simulator.aims l.fn.sim;
}

abbrev pub decreases-places : goal.decreases-places
decreases-places g l = length l.self.verdicts.items - l.from
