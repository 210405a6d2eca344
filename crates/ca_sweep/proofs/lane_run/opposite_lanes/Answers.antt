use Rattle.std.proofs.Common.{arith, sym, ◌∙◌, ap, length, subst}
use Rattle.ca_net.specs.State.{value_at}
use Rattle.ca_view.specs.Linked.{place_in}
use Rattle.ca_view.specs.Places.{cell_number}
use Rattle.ca_sweep.specs.code.Firsts.{IsLessened}
use Rattle.ca_sweep.specs.code.Lanes.{goods_in, trits_in, values_in}
use Rattle.ca_sweep.proofs.FirstLemmas.{least_begins, least_more, first_number}
use Rattle.ca_sweep.proofs.LaneLemmas.{trits_count}
use Rattle.ca_sweep.proofs.lane_run.opposite_lanes.Goals as goal

pub own_opposite-seen-requires-clause-same : goal.own_opposite-seen-requires-clause-same
own_opposite-seen-requires-clause-same c =
    let nets = (c.requires.held 0 (omega arith)).room.nets in
    ap length c.deref.ensures.value ∙ sym (trits_count c.args.values.now.ones.items 0) ∙ nets

pub loop-place-init : goal.loop-place-init
loop-place-init c = record {
  least = λ lane within unset. least_begins c.args.chip.now.core (place_in c.args.chip.now.ranks) (cell_number c.args.chip.now.chip) c.linked.ensures.linked c.args.u (goods_in c.args.goods.now lane)
      (values_in c.args.values.now lane) c.args.firsts.now c.args.count c.args.count c.requires.count
      (subst (λ list. IsLessened c.args.chip.now.core (goods_in c.args.goods.now lane) (value_at (trits_in list lane)) c.args.firsts.now c.args.u c.args.count c.args.count)
      c.deref.ensures.value (c.own_opposite-seen.ensures lane unset).1);
  within = omega arith;
}

pub order-requires : goal.order-requires
order-requires c = (c.requires.held 0 (omega arith)).placed c.in-Some.place c.in-Some.ensures.1

pub own_opposite-seen-requires-in-Some-clause-same : goal.own_opposite-seen-requires-in-Some-clause-same
own_opposite-seen-requires-in-Some-clause-same c =
    let nets = (c.requires.held 0 (omega arith)).room.nets in
    ap length c.deref-in-Some.ensures.value ∙ sym (trits_count c.args.values.now.ones.items 0) ∙ nets

pub loop-place-preserved : goal.loop-place-preserved
loop-place-preserved c =
    let place = (c.requires.held 0 (omega arith)).placed c.in-Some.place c.in-Some.ensures.1 in
    let bound = c.linked.ensures.linked.within place.instance place.is_placed.known in
    let at = place.at in
    record {
      least = λ lane within unset.
          let both = c.own_opposite-seen-in-Some.ensures lane unset in
          least_more c.args.chip.now.core (place_in c.args.chip.now.ranks) (cell_number c.args.chip.now.chip) c.linked.ensures.linked c.args.u (goods_in c.args.goods.now lane)
          (values_in c.args.values.now lane) c.args.firsts.now c.loop-place.from c.in-Some.place c.order.result c.args.count c.args.count (c.loop-place.invariant.least lane within both.0)
          c.in-Some.ensures c.order.ensures.placed c.order.ensures.at
          (subst (λ list. IsLessened c.args.chip.now.core (goods_in c.args.goods.now lane) (value_at (trits_in list lane)) c.args.firsts.now c.order.result c.args.count c.args.count)
          c.deref-in-Some.ensures.value both.1);
      within = omega arith;
    }

pub loop-place-smaller : goal.loop-place-smaller
loop-place-smaller c =
    let place = (c.requires.held 0 (omega arith)).placed c.in-Some.place c.in-Some.ensures.1 in
    let bound = c.linked.ensures.linked.within place.instance place.is_placed.known in
    let at = place.at in
    let least = c.in-Some.ensures.0 in
    omega arith

pub returns : goal.returns
returns c = λ lane within unset.
    first_number c.args.chip.now.core (place_in c.args.chip.now.ranks) (cell_number c.args.chip.now.chip) c.linked.ensures.linked c.args.u (goods_in c.args.goods.now lane)
    (values_in c.args.values.now lane) c.args.firsts.now c.loop-place.from c.args.count (c.loop-place.invariant.least lane within unset) c.in_default.ensures (c.requires.held lane within) c.requires.firsts
    (let count = c.requires.count in omega arith)
