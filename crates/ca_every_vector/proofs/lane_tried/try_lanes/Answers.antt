use Rattle.std.proofs.Common.{◌<◌, ◌∙◌, length, sym, subst}
use Rattle.std.specs.List.{All}
use Rattle.ca_view.specs.Linked.{place_in}
use Rattle.ca_every_vector.specs.code.Lanes.{AreAscending, AreSameLanesOutside}
use Rattle.ca_every_vector.proofs.LaneTriedLemmas.{fixed_outside, fixed_within, same_back, same_then, within_same}
use Rattle.ca_every_vector.proofs.lane_tried.try_lanes.Goals as goal

pub try_blocks-requires-clause-ascending : goal.try_blocks-requires-clause-ascending
try_blocks-requires-clause-ascending c = subst (AreAscending (place_in c.args.chip.now.ranks)) c.as_slice.ensures.value (c.are_ascending.ensures c.if-not-are_ascending.false)

pub try_blocks-requires-clause-within : goal.try_blocks-requires-clause-within
try_blocks-requires-clause-within c =
    fixed_within c.args.chip.now.core c.args.region.now.inputs.items c.args.region.now.parts.items c.args.values.now c.args.fixed.now c.requires.fixed c.requires.values

pub try_blocks-requires-clause-rest : goal.try_blocks-requires-clause-rest
try_blocks-requires-clause-rest c = same_then c.args.others.now c.args.fixed.now c.args.values.now c.requires.others (same_back c.args.values.now c.args.fixed.now c.requires.values)

pub restore_lanes-requires-clause-room : goal.restore_lanes-requires-clause-room
restore_lanes-requires-clause-room c = record {
  zeros = c.in_ok-all.ensures.nets.zeros ∙ sym c.requires.fixed.nodes.zeros;
  ones = c.in_ok-all.ensures.nets.ones ∙ sym c.requires.fixed.nodes.zeros;
}

pub restore_lanes-requires-clause-from_room : goal.restore_lanes-requires-clause-from_room
restore_lanes-requires-clause-from_room c = c.requires.fixed.nodes.ones ∙ sym c.requires.fixed.nodes.zeros

pub restore_lanes-requires-clause-known : goal.restore_lanes-requires-clause-known
restore_lanes-requires-clause-known c =
    subst (λ n. All (λ net. net < n) c.as_slice-2.result.now) (sym c.requires.fixed.nodes.zeros)
    (subst (All (λ net. net < length c.args.chip.now.core.nets)) (sym c.as_slice-2.ensures.value) c.requires.region.nets_are.known)

pub restore_lanes-requires-clause-same : goal.restore_lanes-requires-clause-same
restore_lanes-requires-clause-same c =
    let region = c.args.region.now in
    subst (AreSameLanesOutside c.args.fixed.now c.try_blocks.new.values) (sym c.as_slice-2.ensures.value)
    (fixed_outside c.args.chip.now.core region.inputs.items region.parts.items region.nets.items c.try_blocks.new.values c.args.fixed.now
    c.requires.fixed c.in_ok-all.ensures.within c.requires.region.nets_are)

pub restore_lanes-requires-2-clause-room : goal.restore_lanes-requires-2-clause-room
restore_lanes-requires-2-clause-room c = record {
  zeros = c.in_ok-all.ensures.other_nets.zeros ∙ sym c.requires.fixed.nodes.zeros;
  ones = c.in_ok-all.ensures.other_nets.ones ∙ sym c.requires.fixed.nodes.zeros;
}

pub restore_lanes-requires-2-clause-from_room : goal.restore_lanes-requires-2-clause-from_room
restore_lanes-requires-2-clause-from_room c = c.requires.fixed.nodes.ones ∙ sym c.requires.fixed.nodes.zeros

pub restore_lanes-requires-2-clause-known : goal.restore_lanes-requires-2-clause-known
restore_lanes-requires-2-clause-known c =
    subst (λ n. All (λ net. net < n) c.as_slice-3.result.now) (sym c.requires.fixed.nodes.zeros)
    (subst (All (λ net. net < length c.args.chip.now.core.nets)) (sym c.as_slice-3.ensures.value) c.requires.region.nets_are.known)

pub restore_lanes-requires-2-clause-same : goal.restore_lanes-requires-2-clause-same
restore_lanes-requires-2-clause-same c =
    let region = c.args.region.now in
    let core = c.args.chip.now.core in
    subst (AreSameLanesOutside c.args.fixed.now c.try_blocks.new.others) (sym c.as_slice-3.ensures.value)
    (fixed_outside core region.inputs.items region.parts.items region.nets.items c.try_blocks.new.others c.args.fixed.now
    c.requires.fixed (within_same core region.inputs.items region.parts.items c.try_blocks.new.values c.try_blocks.new.others c.in_ok-all.ensures.within c.in_ok-all.ensures.rest)
    c.requires.region.nets_are)
