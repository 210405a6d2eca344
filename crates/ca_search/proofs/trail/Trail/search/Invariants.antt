use Rattle.std.proofs.Common.{◌≡◌, ◌+◌, ◌*◌, ◌-◌, length}
use Rattle.ca_search.specs.Judged.{IsSameAim}
use Rattle.ca_search.specs.code.Steps.{TrailStands}
use Rattle.ca_search.proofs.trail.Trail.search.Given as goal

abbrev pub invariant-deciding : goal.invariant-deciding
invariant-deciding g l = record {
  aim : IsSameAim (g.J.Judge.judged l.fn.judge) (g.J.Judge.judged l.judge);
  budget : l.self.budget ≡ l.fn.self.budget;
  stands : TrailStands (g.J.Judge.judged l.judge) l.self;
}

-- the tokens that may still be written
abbrev pub decreases-deciding : goal.decreases-deciding
decreases-deciding g l = 2 * l.fn.self.budget + 1 - length l.self.numbers.items
