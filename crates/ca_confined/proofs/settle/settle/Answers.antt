use Rattle.std.proofs.Common.{◌≡◌, length, ◌∙◌, ap, sym, subst, arith}
use Rattle.std.specs.List.{All}
use Rattle.ca_net.specs.Wave.{IsWave}
use Rattle.ca_flat.specs.Chip.{cell_at, net_of, inputs_at}
use Rattle.ca_flat.specs.Flat.{circuit_in}
use Rattle.ca_response.specs.Gives.{Gives}
use Rattle.ca_sim.specs.Current.{input_waves}
use Rattle.ca_sim.specs.Network.{IsWrittenOut}
use Rattle.ca_places.specs.PlaceSet.{Has}
use Rattle.ca_places.proofs.PlaceLemmas.{holds_as}
use Rattle.ca_view.specs.Places.{cell_number}
use Rattle.ca_view.specs.Linked.{place_in}
use Rattle.ca_sim.proofs.WaveLemmas.{length-waves_from, all_waves_from}
use Rattle.ca_confined.proofs.SettleLemmas.{settled_more, kept_on}
use Rattle.ca_confined.proofs.settle.settle.Goals as goal

pub respond_beside-outputs-requires-clause-pins : goal.respond_beside-outputs-requires-clause-pins
respond_beside-outputs-requires-clause-pins c =
    let core = c.args.chip.now.core in
    ap length (c.input_waves-pins.ensures) ∙ length-waves_from (net_of core c.order-u.result) c.loop-place.network.waves 0 (inputs_at core c.order-u.result)

pub respond_beside-outputs-requires-clause-waves : goal.respond_beside-outputs-requires-clause-waves
respond_beside-outputs-requires-clause-waves c =
    let core = c.args.chip.now.core in
    subst (All IsWave) (sym (c.input_waves-pins.ensures))
    (all_waves_from (net_of core c.order-u.result) c.loop-place.network.waves c.loop-place.invariant.settled.ready.are_waves (inputs_at core c.order-u.result))

pub respond_beside-outputs-requires-clause-twin : goal.respond_beside-outputs-requires-clause-twin
respond_beside-outputs-requires-clause-twin c = λ good is.
    c.requires.twin good is c.order-u.result c.order-u.ensures.placed (subst (Has c.args.scope.now) (sym c.order-u.ensures.at) c.in-Some.ensures.2)

pub loop-place-preserved : goal.loop-place-preserved
loop-place-preserved c =
    let core = c.args.chip.now.core in
    let place_of = place_in c.args.chip.now.ranks in
    let linked = c.linked.ensures.linked in
    let u = c.order-u.result in
    let mid = c.loop-place.network in
    let pins_are : c.input_waves-pins.result.items ≡ input_waves core mid.waves u = c.input_waves-pins.ensures in
    let given : Gives (cell_at core u) (circuit_in core c.args.aim u) (input_waves core mid.waves u) c.respond_beside-outputs.result.items =
    subst (λ pins. Gives (cell_at core u) (circuit_in core c.args.aim u) pins c.respond_beside-outputs.result.items) pins_are c.respond_beside-outputs.ensures.gives in
    let out = subst (λ outputs. IsWrittenOut core place_of u outputs (record { waves = mid.waves; due = c.remove.new.self }) c.write.new.self) c.as_slice.ensures.value c.write.ensures in
    let place_within = c.loop-place.invariant.settled.ready.within c.in-Some.place c.in-Some.ensures.1 in
    let bound = linked.within place_within.instance place_within.is_placed.known in
    let at = place_within.at in
    record {
      settled = settled_more core place_of (cell_number c.args.chip.now.chip) linked c.args.aim c.args.scope.now c.args.network.now c.loop-place.from c.instances-end.result c.in-Some.place u
          c.respond_beside-outputs.result.items mid c.write.new.self c.remove.new.self c.loop-place.invariant.settled c.in-Some.ensures c.remove.ensures.here c.remove.ensures.others
          (holds_as c.loop-place.network.due c.remove.new.self c.remove.ensures.room) c.order-u.ensures.placed c.order-u.ensures.at given c.respond_beside-outputs.ensures.waves out;
      kept = kept_on _ _ _ c.loop-place.invariant.kept c.respond_beside-outputs.ensures.kept;
      within = omega arith;
    }
