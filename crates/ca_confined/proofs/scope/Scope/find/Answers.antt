use Rattle.std.proofs.Common.{◌+◌, refl, sym, subst, arith}
use Rattle.ca_places.specs.declared.place_set.PlaceSet.{PlaceSet}
use Rattle.ca_places.specs.PlaceSet.{Has}
use Rattle.ca_flat.specs.Chip.{count_of}
use Rattle.ca_view.specs.Linked.{place_in}
use Rattle.ca_view.specs.Places.{cell_number}
use Rattle.ca_confined.proofs.ScopeLemmas.{place_low, reached_begin, reached_more, all_seen, rooted_on, cleared_room}
use Rattle.ca_confined.proofs.ReachLemmas.{reached_observed}
use Rattle.ca_confined.proofs.scope.Scope.find.Goals as goal

pub clear-requires-clause-below : goal.clear-requires-clause-below
clear-requires-clause-below c = λ place has.
    let low = place_low c.args.chip.now.core (place_in c.args.chip.now.ranks) (cell_number c.args.chip.now.chip) c.linked.ensures.linked place (c.requires.room.reach_within place has) in
    omega arith

pub clear-requires-2-clause-below : goal.clear-requires-2-clause-below
clear-requires-2-clause-below c = λ place has.
    let low = place_low c.args.chip.now.core (place_in c.args.chip.now.ranks) (cell_number c.args.chip.now.chip) c.linked.ensures.linked place (c.requires.room.places_within place has) in
    omega arith

pub clear-requires-3-clause-below : goal.clear-requires-3-clause-below
clear-requires-3-clause-below c = λ net has.
    let within = c.linked.ensures.linked.is_chip.observed net (c.requires.room.outputs_within net has) in
    omega arith

pub visit-requires-clause-room : goal.visit-requires-clause-room
visit-requires-clause-room c =
    let old = c.args.self.now in
    cleared_room c.args.chip.now.core (place_in c.args.chip.now.ranks) old
    (record { drivers = old.drivers; reach = c.clear.new.set; outputs = c.clear-3.new.set; places = c.clear-2.new.set })
    c.requires.room refl c.clear.ensures c.clear-3.ensures c.clear-2.ensures

pub loop-place-init : goal.loop-place-init
loop-place-init c =
    let old = c.args.self.now in
    record {
      room = c.visit.ensures.room;
      reached = reached_begin c.args.chip.now.core (place_in c.args.chip.now.ranks) (cell_number c.args.chip.now.chip) c.linked.ensures.linked c.args.u
          (record { drivers = old.drivers; reach = c.clear.new.set; outputs = c.clear-3.new.set; places = c.clear-2.new.set }) c.visit.new.self
          c.requires.placed c.clear.ensures.none c.clear-3.ensures.none c.visit.ensures.visited;
      within = omega arith;
    }

pub order-requires : goal.order-requires
order-requires c = c.loop-place.invariant.room.reach_within c.in-Some.place c.in-Some.ensures.1

pub loop-place-preserved : goal.loop-place-preserved
loop-place-preserved c =
    let core = c.args.chip.now.core in
    let place_of = place_in c.args.chip.now.ranks in
    let low = place_low core place_of (cell_number c.args.chip.now.chip) c.linked.ensures.linked c.in-Some.place
    (c.loop-place.invariant.room.reach_within c.in-Some.place c.in-Some.ensures.1) in
    record {
      room = c.visit-in-Some.ensures.room;
      reached = reached_more core place_of (cell_number c.args.chip.now.chip) c.linked.ensures.linked c.args.u c.loop-place.from c.in-Some.place c.order.result
          c.loop-place.self c.visit-in-Some.new.self c.in-Some.ensures c.order.ensures.placed c.order.ensures.at c.loop-place.invariant.reached c.visit-in-Some.ensures.visited;
      within = omega arith;
    }

pub returns-clause-scope : goal.returns-clause-scope
returns-clause-scope c =
    let core = c.args.chip.now.core in
    let place_of = place_in c.args.chip.now.ranks in
    let number_of = cell_number c.args.chip.now.chip in
    let linked = c.linked.ensures.linked in
    let mid = c.loop-place.self in
    let all = all_seen core place_of number_of linked c.args.u c.loop-place.from mid c.loop-place.invariant.reached c.in_default.ensures in
    record {
      reached = λ net is reached. subst (λ (set : PlaceSet). Has set net) (sym c.close.ensures.kept.outputs)
          (reached_observed core place_of number_of linked c.args.u mid c.loop-place.invariant.reached.own all net is reached);
      rooted = rooted_on core place_of (count_of core + 1) mid c.close.new.self c.loop-place.invariant.reached.rooted c.close.ensures.kept;
      closed = c.close.ensures.closed;
    }
