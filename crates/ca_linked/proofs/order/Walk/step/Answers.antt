use Rattle.std.proofs.Common.{refl, arith}
use Rattle.ca_linked.proofs.WorkLemmas.{step_within, next_within, step_leaves, step_advances, step_enters}
use Rattle.ca_linked.proofs.WorkLemmas.{step_meets}
use Rattle.ca_linked.proofs.order.Walk.step.Goals as goal

pub row-row-requires : goal.row-row-requires
row-row-requires c =
    let within = step_within c.args.feeders.now c.args.roots.now c.requires.closed c.requires.rows c.args.self.now c.top-visit.result c.requires.some c.top-visit.ensures
    c.requires.walk _ refl in
    omega (arith, within, c.requires.walk.room)

pub leave-requires-clause-within : goal.leave-requires-clause-within
leave-requires-clause-within c =
    step_within c.args.feeders.now c.args.roots.now c.requires.closed c.requires.rows c.args.self.now c.top-visit.result c.requires.some c.top-visit.ensures
    c.requires.walk _ refl

pub returns-then-visit-row : goal.returns-then-visit-row
returns-then-visit-row c =
    step_leaves c.args.feeders.now c.args.roots.now c.requires.closed c.requires.rows c.args.self.now c.top-visit.result c.requires.some c.top-visit.ensures
    c.requires.walk c.row-row.result.now c.row-row.ensures c.leave.new.self c.if-visit-row.true (c.in_ok-leave.ensures {u = tt})

pub mark-requires : goal.mark-requires
mark-requires c =
    next_within c.args.feeders.now c.args.roots.now c.requires.closed c.requires.rows c.args.self.now c.top-visit.result c.requires.some c.top-visit.ensures
    c.requires.walk c.row-row.result.now c.row-row.ensures c.if-visit-row.false

pub enter-requires : goal.enter-requires
enter-requires c =
    next_within c.args.feeders.now c.args.roots.now c.requires.closed c.requires.rows c.args.self.now c.top-visit.result c.requires.some c.top-visit.ensures
    c.requires.walk c.row-row.result.now c.row-row.ensures c.if-visit-row.false

pub returns-in-Open : goal.returns-in-Open
returns-in-Open c = (
  refl,
  step_meets c.args.feeders.now c.args.roots.now c.requires.closed c.requires.rows c.args.self.now c.top-visit.result c.requires.some c.top-visit.ensures
      c.requires.walk c.row-row.result.now c.row-row.ensures c.mark.result c.if-visit-row.false c.mark.ensures c.in-Open.is,
)

pub returns-in_ok-enter-in-New : goal.returns-in_ok-enter-in-New
returns-in_ok-enter-in-New c =
    step_enters c.args.feeders.now c.args.roots.now c.requires.closed c.requires.rows c.args.self.now c.top-visit.result c.requires.some c.top-visit.ensures
    c.requires.walk c.row-row.result.now c.row-row.ensures c.enter.new.self c.mark.result c.if-visit-row.false c.mark.ensures c.in-New.is (c.in_ok-enter-in-New.ensures {u = tt})

pub returns-in-Done : goal.returns-in-Done
returns-in-Done c =
    step_advances c.args.feeders.now c.args.roots.now c.requires.closed c.requires.rows c.args.self.now c.top-visit.result c.requires.some c.top-visit.ensures
    c.requires.walk c.row-row.result.now c.row-row.ensures c.advance.new.self c.mark.result c.if-visit-row.false c.mark.ensures c.in-Done.is c.advance.ensures
