use Rattle.std.proofs.Common.{arith}
use Rattle.ca_linked.proofs.LoopLemmas.{root_entered, visited}
use Rattle.ca_linked.proofs.order.Walk.visit_one.Goals as goal

pub is_new-requires : goal.is_new-requires
is_new-requires c = let lt = c.requires.rows c.args.root c.requires.is_root in omega (arith, lt, c.requires.walk.room)

pub enter-requires : goal.enter-requires
enter-requires c = let lt = c.requires.rows c.args.root c.requires.is_root in omega (arith, lt, c.requires.walk.room)

pub finish-requires-clause-walk : goal.finish-requires-clause-walk
finish-requires-clause-walk c =
    let lt = c.requires.rows c.args.root c.requires.is_root in
    root_entered c.args.feeders.now c.args.roots.now c.args.self.now c.enter.new.self c.args.root c.requires.walk c.requires.begun
    (c.is_new.ensures.0 c.if-not-is_new.false) (omega (arith, lt, c.requires.walk.room)) c.requires.is_root (c.in_ok-enter.ensures {u = tt})

pub returns-clause-met : goal.returns-clause-met
returns-clause-met c =
    let lt = c.requires.rows c.args.root c.requires.is_root in
    visited c.args.feeders.now c.args.self.now c.enter.new.self c.finish.new.self c.args.root c.in_ok-met.met (omega (arith, lt, c.requires.walk.room))
    (c.in_ok-enter.ensures {u = tt}) c.in_ok-met.ensures.reached c.in_ok-met.ensures.met
