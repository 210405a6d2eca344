use Rattle.std.proofs.Common.{◌≡◌, ◌≤◌, length, vec_len}
use Rattle.ca_search.proofs.StepLemmas.{TurnsBack}
use Rattle.ca_search.specs.code.Steps.{IsSameRoom}
use Rattle.ca_search.proofs.trail.Trail.turn.Given as goal

abbrev pub invariant-loop-decision : goal.invariant-loop-decision
invariant-loop-decision g l = record {
  back : TurnsBack (g.J.Judge.judged l.fn.judge) (g.J.Judge.judged l.judge) l.fn.self.decisions.items l.self.decisions.items;
  room : IsSameRoom l.fn.self l.self;
  branches : l.self.branches ≡ l.fn.self.branches;
  numbers : l.self.numbers.items ≡ l.fn.self.numbers.items;
  fewer : length l.self.decisions.items ≤ length l.fn.self.decisions.items;
}

abbrev pub decreases-loop-decision : goal.decreases-loop-decision
decreases-loop-decision g l = vec_len l.self.decisions
