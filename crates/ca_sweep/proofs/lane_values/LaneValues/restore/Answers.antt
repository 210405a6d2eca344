use Rattle.std.proofs.Common.{refl, arith, sym, ◌∙◌}
use Rattle.ca_view.specs.Linked.{place_in}
use Rattle.ca_view.specs.Places.{cell_number}
use Rattle.ca_places.proofs.PlaceLemmas.{holds_as}
use Rattle.ca_sweep.specs.code.Lanes.{goods_in, trits_in, values_in}
use Rattle.ca_sweep.proofs.HeldLemmas.{held_begins, held_more, held_ends}
use Rattle.ca_sweep.proofs.LaneLemmas.{trits_count}
use Rattle.ca_sweep.proofs.lane_values.LaneValues.restore.Goals as goal

pub loop-place-init : goal.loop-place-init
loop-place-init c = record {
  held = λ lane within. held_begins c.args.chip.now.core (place_in c.args.chip.now.ranks) (cell_number c.args.chip.now.chip) c.linked.ensures.linked (goods_in c.args.goods.now lane) c.args.u
      (values_in c.args.self.now lane) (values_in c.give_back.new.self lane) (c.requires.held lane within) (c.give_back.ensures.back lane);
  within = omega arith;
  room = c.give_back.ensures.room;
}

pub give_back-requires-clause-room : goal.give_back-requires-clause-room
give_back-requires-clause-room c =
    let nets = (c.requires.held 0 (omega arith)).room.nets in
    sym (trits_count c.args.self.now.ones.items 0) ∙ nets

pub order-requires : goal.order-requires
order-requires c = (c.loop-place.invariant.held 0 (omega arith)).placed c.in-Some.place c.in-Some.ensures.1

pub loop-place-preserved : goal.loop-place-preserved
loop-place-preserved c =
    let place = (c.loop-place.invariant.held 0 (omega arith)).placed c.in-Some.place c.in-Some.ensures.1 in
    let bound = c.linked.ensures.linked.within place.instance place.is_placed.known in
    let at = place.at in
    record {
      held = λ lane within. held_more c.args.chip.now.core (place_in c.args.chip.now.ranks) (cell_number c.args.chip.now.chip) c.linked.ensures.linked (goods_in c.args.goods.now lane)
          c.loop-place.from c.in-Some.place c.order.result (values_in c.loop-place.self lane) _ (values_in c.give_back-in-Some.new.self lane) (c.loop-place.invariant.held lane within) c.in-Some.ensures refl
          c.remove.ensures.here c.remove.ensures.others (holds_as c.loop-place.self.due c.remove.new.self c.remove.ensures.room) c.order.ensures.placed c.order.ensures.at (c.give_back-in-Some.ensures.back lane);
      within = omega arith;
      room = c.give_back-in-Some.ensures.room;
    }

pub returns-clause-rest : goal.returns-clause-rest
returns-clause-rest c = λ lane within.
    held_ends c.args.chip.now.core (place_in c.args.chip.now.ranks) (cell_number c.args.chip.now.chip) c.linked.ensures.linked (goods_in c.args.goods.now lane)
    c.loop-place.from (trits_in c.args.goods.now lane) (values_in c.loop-place.self lane) (c.loop-place.invariant.held lane within) c.in_default.ensures
    (trits_count c.args.goods.now lane ∙ c.requires.nets) (λ net. refl)
