use Rattle.std.specs.List.{Contains}
use Rattle.ca_linked.specs.code.Walk.{IsWalk, KeepsReached, work_of}
use Rattle.ca_linked.proofs.order.Walk.finish.Given as goal

abbrev pub invariant-steps : goal.invariant-steps
invariant-steps l = record {
  walk : IsWalk l.feeders (Contains l.roots) l.self;
  reached : KeepsReached l.fn.self l.self;
}

abbrev pub decreases-steps : goal.decreases-steps
decreases-steps l = work_of l.feeders l.self
