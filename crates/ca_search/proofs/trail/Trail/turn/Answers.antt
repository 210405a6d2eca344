use Rattle.std.proofs.Common.{arith}
use Rattle.ca_search.proofs.TrailLemmas.{popped_within, popped_fewer, takes_back_to, turns_to, turns_out_to}
use Rattle.ca_search.proofs.trail.Trail.turn.Goals as goal

pub set-requires : goal.set-requires
set-requires g c = popped_within _ _ _ _ c.loop-decision.invariant.back.follows c.in-Some.ensures.items

pub loop-decision-preserved : goal.loop-decision-preserved
loop-decision-preserved g c = record {
  back = takes_back_to _ _ _ _ _ _ _ c.loop-decision.invariant.back c.in-Some.ensures.items c.if-decision.true
      c.set.ensures;
  room = record {
    budget = c.loop-decision.invariant.room.budget;
    bits = c.loop-decision.invariant.room.bits;
  };
  branches = c.loop-decision.invariant.branches;
  numbers = c.loop-decision.invariant.numbers;
  fewer = omega (arith, popped_fewer _ _ _ c.in-Some.ensures.items, c.loop-decision.invariant.fewer);
}

pub set-requires-else-decision : goal.set-requires-else-decision
set-requires-else-decision g c =
    popped_within _ _ _ _ c.loop-decision.invariant.back.follows c.in-Some.ensures.items

pub returns-else-decision-clause-turned : goal.returns-else-decision-clause-turned
returns-else-decision-clause-turned g c =
    turns_to _ _ _ _ _ _ _ _ c.loop-decision.invariant.back c.in-Some.ensures.items c.if-decision.false
    c.set-else-decision.ensures c.push_reserved.ensures.items

pub returns-clause-turned : goal.returns-clause-turned
returns-clause-turned g c =
    turns_out_to _ _ _ _ c.loop-decision.invariant.back
    (omega (arith, c.in_default.ensures.cases.0, c.loop-decision.self.decisions.ok))
