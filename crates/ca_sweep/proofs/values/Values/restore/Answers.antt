use Rattle.std.proofs.Common.{refl, arith}
use Rattle.ca_net.specs.State.{value_at}
use Rattle.ca_view.specs.Linked.{place_in}
use Rattle.ca_view.specs.Places.{cell_number}
use Rattle.ca_places.proofs.PlaceLemmas.{holds_as}
use Rattle.ca_sweep.proofs.HeldLemmas.{held_begins, held_more, held_ends}
use Rattle.ca_sweep.proofs.values.Values.restore.Goals as goal

pub loop-place-init : goal.loop-place-init
loop-place-init c = record {
  held = held_begins c.args.chip.now.core (place_in c.args.chip.now.ranks) (cell_number c.args.chip.now.chip) c.linked.ensures.linked (value_at c.args.lasts.now) c.args.u
      c.args.self.now c.give_back.new.self c.requires.held c.give_back.ensures;
  within = omega arith;
}

pub loop-place-preserved : goal.loop-place-preserved
loop-place-preserved c =
    let place = c.loop-place.invariant.held.placed c.in-Some.place c.in-Some.ensures.1 in
    let bound = c.linked.ensures.linked.within place.instance place.is_placed.known in
    let at = place.at in
    record {
      held = held_more c.args.chip.now.core (place_in c.args.chip.now.ranks) (cell_number c.args.chip.now.chip) c.linked.ensures.linked (value_at c.args.lasts.now)
          c.loop-place.from c.in-Some.place c.order.result c.loop-place.self _ c.give_back-in-Some.new.self c.loop-place.invariant.held c.in-Some.ensures refl
          c.remove.ensures.here c.remove.ensures.others (holds_as c.loop-place.self.due c.remove.new.self c.remove.ensures.room) c.order.ensures.placed c.order.ensures.at c.give_back-in-Some.ensures;
      within = omega arith;
    }

pub returns : goal.returns
returns c =
    held_ends c.args.chip.now.core (place_in c.args.chip.now.ranks) (cell_number c.args.chip.now.chip) c.linked.ensures.linked (value_at c.args.lasts.now)
    c.loop-place.from c.args.lasts.now c.loop-place.self c.loop-place.invariant.held c.in_default.ensures c.requires.nets (λ net. refl)
