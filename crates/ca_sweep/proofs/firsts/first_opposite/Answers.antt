use Rattle.std.proofs.Common.{arith}
use Rattle.ca_net.specs.State.{value_at}
use Rattle.ca_view.specs.Linked.{place_in}
use Rattle.ca_view.specs.Places.{cell_number}
use Rattle.ca_sweep.proofs.FirstLemmas.{least_begins, least_more, first_number}
use Rattle.ca_sweep.proofs.firsts.first_opposite.Goals as goal

pub loop-place-init : goal.loop-place-init
loop-place-init c = record {
  least = least_begins c.args.chip.now.core (place_in c.args.chip.now.ranks) (cell_number c.args.chip.now.chip) c.linked.ensures.linked c.args.u (value_at c.args.lasts.now)
      c.args.values.now c.args.firsts.now c.args.count c.lessened-first.result c.requires.count c.lessened-first.ensures;
  within = omega arith;
  few = let l = c.lessened-first.ensures.least in omega arith;
}

pub order-w-requires : goal.order-w-requires
order-w-requires c = c.requires.held.placed c.in-Some.place c.in-Some.ensures.1

pub loop-place-preserved : goal.loop-place-preserved
loop-place-preserved c =
    let place = c.requires.held.placed c.in-Some.place c.in-Some.ensures.1 in
    let bound = c.linked.ensures.linked.within place.instance place.is_placed.known in
    let at = place.at in
    record {
      least = least_more c.args.chip.now.core (place_in c.args.chip.now.ranks) (cell_number c.args.chip.now.chip) c.linked.ensures.linked c.args.u (value_at c.args.lasts.now)
          c.args.values.now c.args.firsts.now c.loop-place.from c.in-Some.place c.order-w.result c.loop-place.first c.lessened-first-in-Some.result c.loop-place.invariant.least
          c.in-Some.ensures c.order-w.ensures.placed c.order-w.ensures.at c.lessened-first-in-Some.ensures;
      within = omega arith;
      few = let l = c.lessened-first-in-Some.ensures.least in let was = c.loop-place.invariant.few in omega arith;
    }

pub loop-place-smaller : goal.loop-place-smaller
loop-place-smaller c =
    let place = c.requires.held.placed c.in-Some.place c.in-Some.ensures.1 in
    let bound = c.linked.ensures.linked.within place.instance place.is_placed.known in
    let at = place.at in
    let least = c.in-Some.ensures.0 in
    omega arith

pub returns : goal.returns
returns c =
    first_number c.args.chip.now.core (place_in c.args.chip.now.ranks) (cell_number c.args.chip.now.chip) c.linked.ensures.linked c.args.u (value_at c.args.lasts.now)
    c.args.values.now c.args.firsts.now c.loop-place.from c.loop-place.first c.loop-place.invariant.least c.in_default.ensures c.requires.held c.requires.firsts
    (let few = c.loop-place.invariant.few in let count = c.requires.count in omega arith)
