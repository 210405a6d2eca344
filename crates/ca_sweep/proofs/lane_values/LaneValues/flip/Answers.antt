use Rattle.std.proofs.Common.{◌≡◌, ◌+◌, arith, ap, ◌∙◌, sym, subst}
use Rattle.std.proofs.lemmas.List.{get_or_default}
use Rattle.ca_net.specs.State.{value_at}
use Rattle.ca_flat.specs.Chip.{net_of, output_net, inputs_at, outputs_at}
use Rattle.ca_flat.specs.Codes.{bit_trit}
use Rattle.ca_planes.specs.Plane.{has_lane}
use Rattle.ca_view.specs.Linked.{place_in}
use Rattle.ca_sweep.specs.Seen.{flipped_outputs, flipped_if, is_flipped}
use Rattle.ca_sweep.specs.code.Changes.{IsWrittenTo}
use Rattle.ca_sweep.specs.code.Lanes.{flips_in, goods_in, trits_in, values_in}
use Rattle.ca_sweep.proofs.ChangeLemmas.{written_none, written_more, still}
use Rattle.ca_sweep.proofs.LaneLemmas.{trit_here}
use Rattle.ca_sweep.proofs.lane_values.LaneValues.flip.Goals as goal

pub loop-output-init : goal.loop-output-init
loop-output-init c = record {
  written = λ lane. written_none c.args.chip.now.core (place_in c.args.chip.now.ranks) c.linked.ensures.linked.is_chip c.args.u c.requires.placed.known
      (flipped_outputs c.args.chip.now.core c.args.u (goods_in c.args.self.now.ones.items lane) (flips_in c.args.flips lane)) (values_in c.args.self.now lane);
  room = c.requires.room;
}

pub loop-output-preserved : goal.loop-output-preserved
loop-output-preserved c =
    let core = c.args.chip.now.core in
    let place_of = place_in c.args.chip.now.ranks in
    let is_chip = c.linked.ensures.linked.is_chip in
    let inputs : c.inputs_at-first.result ≡ inputs_at core c.args.u = c.inputs_at-first.ensures in
    let outputs : c.outputs_at-output-end.result ≡ outputs_at core c.args.u = c.outputs_at-output-end.ensures in
    let net_is : c.pin_net-net.result ≡ output_net core c.args.u c.loop-output.output = c.pin_net-net.ensures ∙ ap (λ k. net_of core c.args.u (k + c.loop-output.output)) inputs in
    let on = is_chip.on_nets c.args.u (c.inputs_at-first.result + c.loop-output.output) c.requires.placed.known (omega arith) in
    let at = c.pin_net-net.ensures in
    let room = c.loop-output.invariant.room.nets in
    let plane_is = c.index.ensures ∙ get_or_default c.loop-output.self.ones.items c.pin_net-net.result c.index.result.now 0 (omega arith) in
    record {
      written = λ lane.
          let value_is = ap (λ p. bit_trit (has_lane p lane)) plane_is
          ∙ sym (trit_here c.loop-output.self.ones.items lane c.pin_net-net.result (omega arith))
          ∙ ap (value_at (trits_in c.loop-output.self.ones.items lane)) net_is
          ∙ still core place_of is_chip c.args.u c.requires.placed.known _ c.loop-output.output (values_in c.args.self.now lane) (values_in c.loop-output.self lane) (omega arith)
          (c.loop-output.invariant.written lane) in
          written_more core place_of is_chip c.args.u c.requires.placed.known
          (flipped_outputs core c.args.u (goods_in c.args.self.now.ones.items lane) (flips_in c.args.flips lane))
          c.loop-output.output c.pin_net-net.result (bit_trit (has_lane c.flipped-plane.result lane)) (values_in c.args.self.now lane) (values_in c.loop-output.self lane) (values_in c.put.new.self lane)
          (omega arith) net_is
          (c.flipped-plane.ensures lane ∙ ap (λ b. flipped_if b (bit_trit (has_lane c.index.result.now lane))) (c.plane_of.ensures lane)
          ∙ ap (flipped_if (is_flipped (flips_in c.args.flips lane) c.loop-output.output)) value_is)
          (c.loop-output.invariant.written lane) (c.put.ensures.put lane);
      room = c.put.ensures.room;
    }

pub returns-clause-written : goal.returns-clause-written
returns-clause-written c = λ lane.
    let core = c.args.chip.now.core in
    let outputs : c.outputs_at-output-end.result ≡ outputs_at core c.args.u = c.outputs_at-output-end.ensures in
    subst (λ n. IsWrittenTo c.args.chip.now.core (place_in c.args.chip.now.ranks) c.args.u n
    (flipped_outputs c.args.chip.now.core c.args.u (goods_in c.args.self.now.ones.items lane) (flips_in c.args.flips lane)) (values_in c.args.self.now lane) (values_in c.loop-output.self lane))
    (let e : c.loop-output.output ≡ outputs_at core c.args.u = omega arith in e) (c.loop-output.invariant.written lane)
