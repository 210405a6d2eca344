use Rattle.std.proofs.Common.{◌≡◌, ◌+◌, ◌<◌, arith, ap, refl, ◌∙◌, sym, subst}
use Rattle.std.proofs.lemmas.List.{length-set}
use Rattle.ca_flat.specs.Chip.{net_of, inputs_at, outputs_at}
use Rattle.ca_sweep.specs.code.Lanes.{goods_in, values_in}
use Rattle.ca_sweep.proofs.HeldLemmas.{back_none, back_more}
use Rattle.ca_sweep.proofs.LaneLemmas.{trit_here, trits_count, trits_set}
use Rattle.ca_sweep.proofs.lane_values.LaneValues.give_back.Goals as goal

pub loop-output-init : goal.loop-output-init
loop-output-init c = record {
  back = λ lane. back_none c.args.chip.now.core c.args.w (goods_in c.args.goods.now lane) (values_in c.args.self.now lane);
  room = c.requires.room;
}

pub loop-output-preserved : goal.loop-output-preserved
loop-output-preserved c =
    let core = c.args.chip.now.core in
    let inputs : c.inputs_at-first.result ≡ inputs_at core c.args.w = c.inputs_at-first.ensures in
    let outputs : c.outputs_at-output-end.result ≡ outputs_at core c.args.w = c.outputs_at-output-end.ensures in
    let on = c.linked.ensures.linked.is_chip.on_nets c.args.w (c.inputs_at-first.result + c.loop-output.output) c.requires.placed.known (omega arith) in
    let at = c.pin_net-net.ensures in
    let nets = c.requires.nets in
    let room = c.loop-output.invariant.room in
    record {
      back = λ lane.
          back_more core c.args.w (goods_in c.args.goods.now lane) c.loop-output.output c.pin_net-net.result _ (values_in c.args.self.now lane) (values_in c.loop-output.self lane) _
          (c.loop-output.invariant.back lane) (c.pin_net-net.ensures ∙ ap (λ k. net_of core c.args.w (k + c.loop-output.output)) inputs)
          (sym (trit_here c.args.goods.now lane c.pin_net-net.result (omega arith)))
          (subst (λ n. c.pin_net-net.result < n) (sym (trits_count c.loop-output.self.ones.items lane)) (omega arith))
          (trits_set c.loop-output.self.ones.items lane c.pin_net-net.result _) refl;
      room = length-set c.loop-output.self.ones.items c.pin_net-net.result _ ∙ room;
    }
