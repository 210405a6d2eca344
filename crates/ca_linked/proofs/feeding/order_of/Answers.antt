use Rattle.std.proofs.Common.{length, subst, sym}
use Rattle.std.specs.List.{Contains}
use Rattle.std.proofs.lemmas.Result.{IfOk-weaker, IfErr-weaker}
use Rattle.ca_linked.specs.Order.{IsOrder}
use Rattle.ca_linked.specs.code.Walk.{IsFeeder, IsSortCause}
use Rattle.ca_linked.specs.Linked.{Feeds, IsLibrary}
use Rattle.ca_linked.specs.code.Feeding.{HasGates, IsOrderCause}
use Rattle.ca_linked.proofs.FeedingLemmas.{gates_closed, gates_have_rows, library_order, cause_is}
use Rattle.ca_linked.proofs.feeding.order_of.Goals as goal

pub sort-requires-clause-closed : goal.sort-requires-clause-closed
sort-requires-clause-closed c =
    gates_closed c.args.draft.now c.in_ok-feeders.feeders c.as_slice.result.now (c.in_ok-feeders.ensures {u = tt})
    (subst (HasGates c.args.draft.now (length c.args.draft.now.parts)) (sym c.as_slice.ensures) (c.in_ok-gates.ensures {u = tt}))

pub sort-requires-clause-rows : goal.sort-requires-clause-rows
sort-requires-clause-rows c =
    gates_have_rows c.args.draft.now c.in_ok-feeders.feeders c.as_slice.result.now (c.in_ok-feeders.ensures {u = tt})
    (subst (HasGates c.args.draft.now (length c.args.draft.now.parts)) (sym c.as_slice.ensures) (c.in_ok-gates.ensures {u = tt}))

pub returns-clause-ok : goal.returns-clause-ok
returns-clause-ok c =
    IfOk-weaker c.sort.result (IsOrder (IsFeeder c.in_ok-feeders.feeders) (Contains c.as_slice.result.now)) (IsOrder (Feeds c.args.draft.now) (IsLibrary c.args.draft.now))
    (library_order c.args.draft.now c.in_ok-feeders.feeders c.as_slice.result.now (c.in_ok-feeders.ensures {u = tt})
    (subst (HasGates c.args.draft.now (length c.args.draft.now.parts)) (sym c.as_slice.ensures) (c.in_ok-gates.ensures {u = tt}))) c.sort.ensures.ok

pub returns-clause-cause : goal.returns-clause-cause
returns-clause-cause c =
    IfErr-weaker c.sort.result (IsSortCause c.in_ok-feeders.feeders) (IsOrderCause c.args.draft.now)
    (cause_is c.args.draft.now c.in_ok-feeders.feeders c.as_slice.result.now (c.in_ok-feeders.ensures {u = tt})
    (subst (HasGates c.args.draft.now (length c.args.draft.now.parts)) (sym c.as_slice.ensures) (c.in_ok-gates.ensures {u = tt}))) c.sort.ensures.cause
