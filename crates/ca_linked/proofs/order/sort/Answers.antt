use Rattle.std.proofs.Common.{◌≡◌, sym, ◌∙◌, subst}
use Rattle.std.specs.List.{Contains}
use Rattle.ca_linked.specs.code.Walk.{AreVisited, IsFeeder}
use Rattle.ca_linked.specs.Order.{IsOnce, IsOrder}
use Rattle.ca_linked.proofs.OrderLemmas.{Returns}
use Rattle.ca_linked.proofs.LoopLemmas.{some_back, ordered, back_once, returns_back, loop_turned}
use Rattle.ca_linked.proofs.order.sort.Goals as goal

pub turned-requires : goal.turned-requires
turned-requires c =
    some_back c.visit.new.self.trail c.in-Some.feeder c.place_of-place.result c.deref.result.now c.place_of-place.ensures
    (c.deref.ensures.value ∙ c.in_ok-back-in-Some.ensures {u = tt})

pub returns-in-None-clause-ok : goal.returns-in-None-clause-ok
returns-in-None-clause-ok c =
    let both = c.in_ok-visit.ensures {u = tt} in
    let done = subst (AreVisited c.args.feeders.now c.args.roots.now c.visit.new.self) c.in-None.is both.met in
    subst (λ order. IsOrder (IsFeeder c.args.feeders.now) (Contains c.args.roots.now) order) (sym c.into_order.ensures)
    (ordered c.args.feeders.now c.args.roots.now c.visit.new.self both.walk done.0 done.1)

pub returns-in_ok-turned-in-Some-clause-cause : goal.returns-in_ok-turned-in-Some-clause-cause
returns-in_ok-turned-in-Some-clause-cause c =
    let both = c.in_ok-visit.ensures {u = tt} in
    let met = subst (AreVisited c.args.feeders.now c.args.roots.now c.visit.new.self) c.in-Some.is both.met in
    let back : c.deref.result.now ≡ _ = c.deref.ensures.value ∙ c.in_ok-back-in-Some.ensures {u = tt} in
    loop_turned (IsFeeder c.args.feeders.now) c.deref.result.now c.in_ok-turned-in-Some.field-0
    (subst (Returns (IsFeeder c.args.feeders.now)) (sym back)
    (returns_back c.args.feeders.now (Contains c.args.roots.now) c.visit.new.self both.walk c.in-Some.feeder c.place_of-place.result met c.place_of-place.ensures))
    (subst IsOnce (sym back) (back_once c.args.feeders.now (Contains c.args.roots.now) c.visit.new.self both.walk c.place_of-place.result))
    (c.in_ok-turned-in-Some.ensures {u = tt})
