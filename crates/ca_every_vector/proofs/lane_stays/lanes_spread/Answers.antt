use Rattle.std.proofs.Common.{subst}
use Rattle.std.specs.List.{All}
use Rattle.ca_net.specs.State.{value_at}
use Rattle.ca_planes.specs.Trits.{state_in}
use Rattle.ca_view.specs.Linked.{place_in}
use Rattle.ca_every_vector.specs.code.Lanes.{IsSameOrInside}
use Rattle.ca_every_vector.specs.code.Spread.{AreFlippedOut, AreInside, StaysSomehow}
use Rattle.ca_every_vector.proofs.SpreadLemmas.{stays_of_checks}
use Rattle.ca_every_vector.proofs.LaneSpreadLemmas.{both_lanes, listed_nets}
use Rattle.ca_every_vector.proofs.lane_stays.lanes_spread.Goals as goal

pub lanes_changed-hidden-requires-clause-known : goal.lanes_changed-hidden-requires-clause-known
lanes_changed-hidden-requires-clause-known c =
    let core = c.args.chip.now.core in
    let place_of = place_in c.args.chip.now.ranks in
    listed_nets core place_of place_of c.args.u c.args.values.now c.spread.new.others c.spread.new.changed.items c.spread.new.touched.items c.as_slice-3.result.now
    c.linked.ensures.linked.is_chip c.in_ok-spread.ensures.spread c.as_slice-3.ensures.value

pub returns-clause-stay : goal.returns-clause-stay
returns-clause-stay c =
    let core = c.args.chip.now.core in
    let place_of = place_in c.args.chip.now.ranks in
    let values = c.args.values.now in
    let others = c.spread.new.others in
    let touched = c.as_slice-2.result.now in
    let changed = c.as_slice-3.result.now in
    both_lanes c.both-2.result c.lanes_flipped-own.result c.both.result
    (λ lane. AreFlippedOut core c.args.u (state_in values lane) (state_in others lane) c.args.flips)
    (λ lane. AreInside core (state_in values lane) (state_in others lane) touched × All (IsSameOrInside core c.args.chip.now.lists (state_in values lane) (state_in others lane)) changed)
    (λ lane. StaysSomehow core c.args.u (state_in values lane) c.args.flips)
    c.both-2.ensures c.lanes_flipped-own.ensures
    (both_lanes c.both.result c.lanes_touched-given.result c.lanes_changed-hidden.result
    (λ lane. AreInside core (state_in values lane) (state_in others lane) touched)
    (λ lane. All (IsSameOrInside core c.args.chip.now.lists (state_in values lane) (state_in others lane)) changed)
    (λ lane. AreInside core (state_in values lane) (state_in others lane) touched × All (IsSameOrInside core c.args.chip.now.lists (state_in values lane) (state_in others lane)) changed)
    c.both.ensures c.lanes_touched-given.ensures.inside c.lanes_changed-hidden.ensures.hidden
    (λ lane low inside hidden. (inside, hidden)))
    (λ lane low own rest. (
      value_at (state_in others lane),
      stays_of_checks core place_of place_of c.linked.ensures.linked.is_chip c.args.chip.now.lists c.linked.ensures.nets c.args.u c.args.flips (state_in values lane) (state_in others lane)
          c.spread.new.changed.items c.spread.new.touched.items (c.in_ok-spread.ensures.spread.each lane low) own
          (subst (AreInside core (state_in values lane) (state_in others lane)) c.as_slice-2.ensures.value rest.0)
          (subst (All (IsSameOrInside core c.args.chip.now.lists (state_in values lane) (state_in others lane))) c.as_slice-3.ensures.value rest.1),
    ))
