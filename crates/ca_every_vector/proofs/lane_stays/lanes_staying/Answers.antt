use Rattle.std.proofs.Common.{◌<◌, subst, sym}
use Rattle.std.specs.List.{All}
use Rattle.ca_view.specs.Linked.{place_in}
use Rattle.ca_every_vector.proofs.LaneSpreadLemmas.{lanes_none, listed_nets}
use Rattle.ca_every_vector.proofs.lane_stays.lanes_staying.Goals as goal

pub lanes_spread-requires-clause-spread : goal.lanes_spread-requires-clause-spread
lanes_spread-requires-clause-spread c =
    lanes_none c.args.chip.now.core (place_in c.args.chip.now.ranks) c.args.u c.args.values.now c.args.others.now c.clear.new.self.items c.clear-2.new.self.items
    c.requires.nets c.requires.other_nets c.requires.rest c.clear.ensures.items c.clear-2.ensures.items

pub restore_lanes-requires-clause-known : goal.restore_lanes-requires-clause-known
restore_lanes-requires-clause-known c =
    let core = c.args.chip.now.core in
    let place_of = place_in c.args.chip.now.ranks in
    subst (λ n. All (λ net. net < n) c.as_slice.result.now) (sym c.requires.nets.zeros)
    (listed_nets core place_of place_of c.args.u c.args.values.now c.lanes_spread.new.others c.lanes_spread.new.changed.items c.lanes_spread.new.touched.items c.as_slice.result.now
    c.linked.ensures.linked.is_chip c.in_ok-lanes.ensures.spread c.as_slice.ensures.value)
