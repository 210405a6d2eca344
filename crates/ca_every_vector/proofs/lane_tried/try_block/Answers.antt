use Rattle.std.proofs.Common.{◌<◌, ◌∙◌, length, sym, subst}
use Rattle.std.specs.List.{All}
use Rattle.ca_every_vector.specs.code.Lanes.{AreLanesKnown, AreLanesWithin, AreSameLanesOutside, HasLastsInLanes, IsTriedInLanes}
use Rattle.ca_every_vector.specs.code.Masks.{mask_at}
use Rattle.ca_every_vector.proofs.LaneTriedLemmas.{lanes_same_outside, tried_in_lanes}
use Rattle.ca_every_vector.proofs.TriedLemmas.{all_then}
use Rattle.ca_every_vector.proofs.lane_tried.try_block.Goals as goal

pub restore_lanes-requires-clause-room : goal.restore_lanes-requires-clause-room
restore_lanes-requires-clause-room c = record {
  zeros = c.requires.other_nets.zeros ∙ sym c.find_lanes-known.ensures.nets.zeros;
  ones = c.requires.other_nets.ones ∙ sym c.find_lanes-known.ensures.nets.zeros;
}

pub restore_lanes-requires-clause-from_room : goal.restore_lanes-requires-clause-from_room
restore_lanes-requires-clause-from_room c = c.find_lanes-known.ensures.nets.ones ∙ sym c.find_lanes-known.ensures.nets.zeros

pub restore_lanes-requires-clause-known : goal.restore_lanes-requires-clause-known
restore_lanes-requires-clause-known c =
    subst (λ n. All (λ net. net < n) c.as_slice.result.now) (sym c.find_lanes-known.ensures.nets.zeros)
    (subst (All (λ net. net < length c.args.chip.now.core.nets)) (sym c.as_slice.ensures.value) c.requires.region.nets_are.known)

pub restore_lanes-requires-clause-same : goal.restore_lanes-requires-clause-same
restore_lanes-requires-clause-same c =
    let core = c.args.chip.now.core in
    let region = c.args.region.now in
    let new = c.find_lanes-known.new.values in
    subst (AreSameLanesOutside new c.args.others.now) (sym c.as_slice.ensures.value)
    (lanes_same_outside core region.inputs.items region.parts.items region.nets.items new c.args.values.now c.args.others.now
    (subst (λ i. AreLanesWithin core i region.parts.items new) c.as_slice-inputs.ensures.value
    (subst (λ p. AreLanesWithin core c.as_slice-inputs.result.now p new) c.as_slice-parts.ensures.value c.find_lanes-known.ensures.within))
    c.requires.within c.requires.rest c.requires.region.nets_are)

pub returns-clause-tried : goal.returns-clause-tried
returns-clause-tried c = λ is.
    let core = c.args.chip.now.core in
    let inputs = c.args.region.now.inputs.items in
    let values = c.find_lanes-known.new.values in
    let masks = c.try_parts.new.masks in
    all_then (λ u. HasLastsInLanes core values u (mask_at masks u)) (IsTriedInLanes core inputs c.args.block masks) c.args.region.now.fresh.items
    (λ u has. tried_in_lanes core inputs c.args.block u values masks
    (subst (λ i. AreLanesKnown core i c.args.block values) c.as_slice-inputs.ensures.value (c.find_lanes-known.ensures.known c.if-not-known.false)) has)
    (subst (All (λ u. HasLastsInLanes core values u (mask_at masks u))) c.as_slice-fresh.ensures.value c.in_ok-try_parts.ensures.lasts)
