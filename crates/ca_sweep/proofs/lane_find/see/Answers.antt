use Rattle.std.proofs.Common.{◌+◌, sym, subst, ◌∙◌, arith}
use Rattle.ca_net.specs.State.{value_at}
use Rattle.ca_planes.specs.Plane.{has_lane}
use Rattle.ca_view.specs.Linked.{place_in}
use Rattle.ca_view.specs.Places.{cell_number}
use Rattle.ca_sweep.specs.code.Lanes.{flips_in, goods_in, trits_in}
use Rattle.ca_sweep.specs.code.Segments.{IsFirstNumber}
use Rattle.ca_sweep.proofs.LaneFindLemmas.{cut_unseen, neither, unseen_there}
use Rattle.ca_sweep.proofs.lane_find.see.Goals as goal

pub returns-in-Done-clause-unseen : goal.returns-in-Done-clause-unseen
returns-in-Done-clause-unseen c = λ lane within unset. record {
  values = value_at (trits_in c.sweep_lanes-halt.new.values.ones.items lane);
  swept = (c.in-Done.ensures.swept lane within).0;
  changed = (c.in-Done.ensures.swept lane within).1;
  first = subst (IsFirstNumber (goods_in c.args.goods.now lane) (value_at (trits_in c.sweep_lanes-halt.new.values.ones.items lane)) c.args.chip.now.core.outputs) c.requires.count
      (c.opposite_lanes-here.ensures lane within unset);
}

pub seen_at-requires-clause-few : goal.seen_at-requires-clause-few
seen_at-requires-clause-few c =
    let placed = (c.in-Cut.ensures.swept 0 (omega arith)).0.placed in
    let few = c.linked.ensures.linked.few in
    let known = placed.known in
    omega arith

pub seen_at-requires-clause-room : goal.seen_at-requires-clause-room
seen_at-requires-clause-room c =
    let placed = (c.in-Cut.ensures.swept 0 (omega arith)).0.placed in
    let room = c.requires.seen.room in
    let known = placed.known in
    omega arith

pub returns-in-Cut-clause-unseen : goal.returns-in-Cut-clause-unseen
returns-in-Cut-clause-unseen c = λ lane within unset.
    let core = c.args.chip.now.core in
    let place_of = place_in c.args.chip.now.ranks in
    let both = neither (has_lane c.opposite_lanes-here.result lane) (has_lane c.seen_at.result lane) (sym (c.either.ensures.lanes lane) ∙ unset) in
    let swept = c.in-Cut.ensures.swept lane within in
    let onward = swept.0.onward in
    cut_unseen core place_of (cell_number c.args.chip.now.chip) c.linked.ensures.linked (goods_in c.args.goods.now lane) c.args.u c.in-Cut.cut.instance
    (flips_in c.args.flips lane) (flips_in c.in-Cut.cut.flips lane) c.requires.placed
    (record {
      values = value_at (trits_in c.sweep_lanes-halt.new.values.ones.items lane);
      until = swept.0;
      cut = swept.1;
      first = subst (IsFirstNumber (goods_in c.args.goods.now lane) (value_at (trits_in c.sweep_lanes-halt.new.values.ones.items lane)) core.outputs) c.requires.count
          (c.opposite_lanes-here.ensures lane within both.0);
    })
    (unseen_there core place_of c.args.goods.now c.args.seen.now (place_of c.args.u + 1) c.in-Cut.cut.instance (flips_in c.in-Cut.cut.flips lane) lane c.requires.seen
    swept.0.placed (omega arith) within (c.seen_at.ensures lane both.1))
