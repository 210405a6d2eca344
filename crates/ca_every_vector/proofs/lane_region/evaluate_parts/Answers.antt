use Rattle.std.proofs.Common.{arith}
use Rattle.ca_planes.specs.Trits.{state_in}
use Rattle.ca_view.specs.Linked.{IsPlaced, place_in}
use Rattle.ca_view.specs.Places.{cell_number}
use Rattle.ca_every_vector.specs.code.Lanes.{number_in}
use Rattle.ca_every_vector.proofs.LaneRegionLemmas.{digits_written, parts_all, parts_more, within_written}
use Rattle.ca_every_vector.proofs.NetLemmas.{entry_has}
use Rattle.ca_every_vector.proofs.RegionLemmas.{known_of_checks}
use Rattle.ca_every_vector.proofs.SpreadLemmas.{entry_listed}
use Rattle.ca_every_vector.proofs.lane_region.evaluate_parts.Goals as goal

pub evaluate_lanes-requires-clause-placed : goal.evaluate_lanes-requires-clause-placed
evaluate_lanes-requires-clause-placed c =
    entry_has (IsPlaced c.args.chip.now.core (place_in c.args.chip.now.ranks)) c.args.parts.now c.loop-place.place c.entry.result c.entry.ensures c.requires.placed

pub loop-place-preserved : goal.loop-place-preserved
loop-place-preserved c =
    let core = c.args.chip.now.core in
    let rank = place_in c.args.chip.now.ranks in
    let is = c.linked.ensures.linked.is_chip in
    let placed = entry_has (IsPlaced c.args.chip.now.core (place_in c.args.chip.now.ranks)) c.args.parts.now c.loop-place.place c.entry.result c.entry.ensures c.requires.placed in
    let before = c.loop-place.invariant in
    let old = c.loop-place.values in
    let new = c.evaluate_lanes.new.values in
    let written = c.evaluate_lanes.ensures.written in
    record {
      nets = c.evaluate_lanes.ensures.nets;
      room = c.evaluate_lanes.ensures.room;
      within = within_written core rank is c.entry.result placed.known old new written c.args.inputs.now c.args.parts.now
          (entry_listed c.args.parts.now c.loop-place.place c.entry.result c.entry.ensures) before.within;
      digits = digits_written core rank is c.entry.result placed.known old new written c.args.inputs.now c.args.block c.linked.ensures.pinned c.requires.inputs before.digits;
      given = parts_more core rank is c.entry.result placed.known old new written c.args.parts.now c.loop-place.place c.entry.ensures c.requires.ascending c.requires.placed
          (c.evaluate_lanes.ensures.given c.if-not-evaluate_lanes.false) before.given;
    }

pub returns-then-not-evaluate_lanes-clause-within : goal.returns-then-not-evaluate_lanes-clause-within
returns-then-not-evaluate_lanes-clause-within c =
    let core = c.args.chip.now.core in
    let placed = entry_has (IsPlaced c.args.chip.now.core (place_in c.args.chip.now.ranks)) c.args.parts.now c.loop-place.place c.entry.result c.entry.ensures c.requires.placed in
    within_written core (place_in c.args.chip.now.ranks) c.linked.ensures.linked.is_chip c.entry.result placed.known c.loop-place.values c.evaluate_lanes.new.values
    c.evaluate_lanes.ensures.written c.args.inputs.now c.args.parts.now (entry_listed c.args.parts.now c.loop-place.place c.entry.result c.entry.ensures) c.loop-place.invariant.within

pub returns-clause-known : goal.returns-clause-known
returns-clause-known c = λ is lane low pair for.
    known_of_checks c.args.chip.now.core (place_in c.args.chip.now.ranks) (cell_number c.args.chip.now.chip) c.linked.ensures.linked c.linked.ensures.pinned c.args.inputs.now c.args.parts.now
    (number_in c.args.block lane) (state_in c.loop-place.values lane) c.requires.inputs.known (c.loop-place.invariant.within lane low) (c.loop-place.invariant.digits lane low)
    (parts_all c.args.chip.now.core c.loop-place.values c.args.parts.now c.loop-place.place lane (let past = c.loop-place-test.false in omega arith) (c.loop-place.invariant.given lane low)) pair for
