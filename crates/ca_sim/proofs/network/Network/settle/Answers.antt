use Rattle.std.proofs.Common.{◌≡◌, length, ◌∙◌, ap, sym, subst, arith, inl, inr}
use Rattle.std.specs.List.{All}
use Rattle.ca_net.specs.Wave.{IsWave}
use Rattle.ca_flat.specs.Chip.{cell_at, net_of, inputs_at}
use Rattle.ca_flat.specs.Flat.{circuit_in}
use Rattle.ca_response.specs.Gives.{Gives}
use Rattle.ca_sim.specs.Current.{input_waves}
use Rattle.ca_sim.specs.Network.{IsWrittenOut}
use Rattle.ca_places.proofs.PlaceLemmas.{holds_as}
use Rattle.ca_view.specs.Places.{cell_number}
use Rattle.ca_sim.proofs.WaveLemmas.{length-waves_from, all_waves_from}
use Rattle.ca_sim.proofs.Settling.{settled_more, settled_all}
use Rattle.ca_sim.proofs.CountLemmas.{counted_more}
use Rattle.ca_view.specs.Linked.{place_in}
use Rattle.ca_sim.proofs.network.Network.settle.Goals as goal

pub respond_beside-outputs-requires-clause-pins : goal.respond_beside-outputs-requires-clause-pins
respond_beside-outputs-requires-clause-pins c =
    let core = c.args.chip.now.core in
    ap length (c.input_waves-pins.ensures) ∙ length-waves_from (net_of core c.order-u.result) c.loop-place.self.waves 0 (inputs_at core c.order-u.result)

pub respond_beside-outputs-requires-clause-waves : goal.respond_beside-outputs-requires-clause-waves
respond_beside-outputs-requires-clause-waves c =
    let core = c.args.chip.now.core in
    subst (All IsWave) (sym (c.input_waves-pins.ensures))
    (all_waves_from (net_of core c.order-u.result) c.loop-place.self.waves c.loop-place.invariant.settled.ready.are_waves (inputs_at core c.order-u.result))

pub respond_beside-outputs-requires-clause-twin : goal.respond_beside-outputs-requires-clause-twin
respond_beside-outputs-requires-clause-twin c = λ good is.
    let twin = c.requires.twin good is in
    record { count = twin.count; are_waves = twin.are_waves; current = twin.current c.order-u.result c.order-u.ensures.placed.known }

pub write-requires-clause-room : goal.write-requires-clause-room
write-requires-clause-room c = holds_as c.loop-place.self.due c.remove.new.self c.remove.ensures.room _
    c.loop-place.invariant.settled.ready.room

pub loop-place-preserved : goal.loop-place-preserved
loop-place-preserved c =
    let core = c.args.chip.now.core in
    let place_of = place_in c.args.chip.now.ranks in
    let linked = c.linked.ensures.linked in
    let u = c.order-u.result in
    let mid = c.loop-place.self in
    let pins_are : c.input_waves-pins.result.items ≡ input_waves core mid.waves u = c.input_waves-pins.ensures in
    let given : Gives (cell_at core u) (circuit_in core c.args.aim u) (input_waves core mid.waves u) c.respond_beside-outputs.result.items =
    subst (λ pins. Gives (cell_at core u) (circuit_in core c.args.aim u) pins c.respond_beside-outputs.result.items) pins_are c.respond_beside-outputs.ensures.gives in
    let out = subst (λ outputs. IsWrittenOut core place_of u outputs (record { waves = mid.waves; due = c.remove.new.self }) c.write.new.self) c.as_slice.ensures.value c.write.ensures in
    let place_within = c.loop-place.invariant.settled.ready.within c.in-Some.place c.in-Some.ensures.1 in
    let bound = linked.within place_within.instance place_within.is_placed.known in
    let at = place_within.at in
    record {
      settled = settled_more core place_of (cell_number c.args.chip.now.chip) linked c.args.aim c.args.self.now c.loop-place.from c.in-Some.place u
          c.respond_beside-outputs.result.items mid c.write.new.self c.remove.new.self c.loop-place.invariant.settled c.in-Some.ensures c.remove.ensures.here c.remove.ensures.others
          (holds_as c.loop-place.self.due c.remove.new.self c.remove.ensures.room) c.order-u.ensures.placed c.order-u.ensures.at given c.respond_beside-outputs.ensures.waves out;
      cells = c.respond_beside-outputs.ensures.cells;
      within = omega arith;
      grows = let before = c.loop-place.invariant.grows in let now = c.respond_beside-outputs.ensures.grows in omega arith;
      count = λ none place was. inr (counted_more _ _ _ c.loop-place.invariant.grows (c.respond_beside-outputs.ensures.count none));
    }

pub returns-clause-settled : goal.returns-clause-settled
returns-clause-settled c =
    settled_all c.args.chip.now.core (place_in c.args.chip.now.ranks) (cell_number c.args.chip.now.chip) c.linked.ensures.linked
    c.args.aim c.args.self.now c.loop-place.from (record { waves = c.loop-place.self.waves; due = c.loop-place.self.due }) c.loop-place.invariant.settled c.in_default.ensures

pub returns-clause-count : goal.returns-clause-count
returns-clause-count c = λ none place was.
    let settled = settled_all c.args.chip.now.core (place_in c.args.chip.now.ranks) (cell_number c.args.chip.now.chip) c.linked.ensures.linked
    c.args.aim c.args.self.now c.loop-place.from (record { waves = c.loop-place.self.waves; due = c.loop-place.self.due }) c.loop-place.invariant.settled c.in_default.ensures in
    elim (c.loop-place.invariant.count none place was) [
      | inl has ↦ absurd (settled.none place has)
      | inr counted ↦ counted
    ]
