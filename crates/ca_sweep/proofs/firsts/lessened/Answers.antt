use Rattle.std.proofs.Common.{◌≡◌, ◌+◌, arith, ap, ◌∙◌, refl}
use Rattle.std.specs.Prelude.{slice_index}
use Rattle.ca_net.specs.State.{value_at}
use Rattle.ca_flat.specs.Chip.{net_of, inputs_at, outputs_at}
use Rattle.ca_sweep.proofs.FirstLemmas.{lessened_by}
use Rattle.ca_sweep.proofs.firsts.lessened.Goals as goal

pub loop-output-preserved : goal.loop-output-preserved
loop-output-preserved c =
    let core = c.args.chip.now.core in
    let inputs : c.inputs_at-pin.result ≡ inputs_at core c.args.w = c.inputs_at-pin.ensures in
    let outputs : c.outputs_at-output-end.result ≡ outputs_at core c.args.w = c.outputs_at-output-end.ensures in
    let on = c.linked.ensures.linked.is_chip.on_nets c.args.w (c.inputs_at-pin.result + c.loop-output.output) c.requires.placed.known (omega arith) in
    let at = c.pin_net-net.ensures in
    let net = c.pin_net-net.result in
    lessened_by core (value_at c.args.lasts.now) (value_at c.args.values.now) c.args.firsts.now c.requires.firsts c.args.w c.loop-output.output c.pin_net-net.result
    c.args.number c.loop-output.least c.lesser_if-least.result (slice_index c.args.firsts.now c.pin_net-net.result) c.get.result c.get-in-loop-output.result c.are_opposite-opposite.result
    (c.pin_net-net.ensures ∙ ap (λ k. net_of core c.args.w (k + c.loop-output.output)) inputs) (omega arith) c.get.ensures c.get-in-loop-output.ensures refl
    c.loop-output.invariant c.lesser_if-least.ensures.least c.are_opposite-opposite.ensures c.lesser_if-least.ensures.here c.lesser_if-least.ensures.from
