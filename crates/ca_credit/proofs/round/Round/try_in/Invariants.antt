use Rattle.std.proofs.Common.{◌≡◌, ◌<◌, ◌≤◌, ◌+◌, ◌-◌, ℕ, length}
use Rattle.ca_code.specs.Filled.{trits_of}
use Rattle.ca_places.specs.PlaceSet.{Has}
use Rattle.ca_credit.specs.code.Round.{IsRound, IsTried}
use Rattle.ca_credit.specs.Table.{credit_count}
use Rattle.ca_credit.specs.code.Aims.{AimsUpTo}
use Rattle.ca_credit.specs.ToTry.{IsNowhere}
use Rattle.ca_credit.proofs.round.Round.try_in.Given as goal

abbrev pub invariant-places : goal.invariant-places
invariant-places g l = record {
  tried : IsTried (g.S.Simulator.task l.fn.sim) l.pair l.number l.start l.end l.self.left l.fn.self.verdicts.items l.self.verdicts.items;
  none : (place : ℕ) → place < l.from → Has l.self.left place → IsNowhere (g.S.Simulator.task l.fn.sim) (trits_of l.pair) place;
  onward : l.start ≤ l.from;
  within : l.from ≤ length l.fn.self.verdicts.items;
  stands : IsRound l.self;
  counted : credit_count l.self.verdicts.items ≡ credit_count l.fn.self.verdicts.items + l.credited;
  task : g.S.Simulator.task l.sim ≡ g.S.Simulator.task l.fn.sim;
  bits : g.S.Simulator.bits l.sim ≡ trits_of l.pair;
  aims : AimsUpTo (g.S.Simulator.task l.fn.sim) l.pair l.from l.fn.self.verdicts.items (g.S.Simulator.aims l.fn.sim) (g.S.Simulator.aims l.sim);
}

abbrev pub decreases-places : goal.decreases-places
decreases-places g l = length l.self.verdicts.items - l.from
