use Rattle.std.proofs.Common.{◌≡◌, ◌<◌, ◌+◌, ◌∙◌, length, ap, arith, sym, subst}
use Rattle.ca_flat.specs.Chip.{net_of, output_net, inputs_at, outputs_at}
use Rattle.ca_every_vector.proofs.NetLemmas.{all_push, longer_push, outputs_push}
use Rattle.ca_every_vector.proofs.regions.add_outputs.Goals as goal

pub loop-output-preserved : goal.loop-output-preserved
loop-output-preserved c =
    let core = c.args.chip.now.core in
    let output = c.loop-output.output in
    let within : output < outputs_at core c.args.w = let e = c.outputs_at-output-end.ensures in let less = c.loop-output-test.true in omega arith in
    let on : c.pin_net.result ≡ output_net core c.args.w output =
    c.pin_net.ensures ∙ ap (λ k. net_of core c.args.w (k + output)) c.inputs_at-first.ensures in
    let on_chip : output_net core c.args.w output < length core.nets =
    c.linked.ensures.linked.is_chip.on_nets c.args.w (inputs_at core c.args.w + output) c.requires.placed.known (omega arith) in
    record {
      known = all_push c.loop-output.nets.items _ c.pin_net.result c.in_ok-push.ensures.items (λ n. n < length c.args.chip.now.core.nets)
          (subst (λ n. n < length core.nets) (sym on) on_chip) c.loop-output.invariant.known;
      outputs = outputs_push c.loop-output.nets.items _ c.pin_net.result c.in_ok-push.ensures.items c.args.chip.now.core c.args.w c.loop-output.output on c.loop-output.invariant.outputs;
      longer = λ n had. longer_push c.loop-output.nets.items _ c.pin_net.result c.in_ok-push.ensures.items n (c.loop-output.invariant.longer n had);
    }

pub returns-clause-outputs : goal.returns-clause-outputs
returns-clause-outputs c = λ output within. c.loop-output.invariant.outputs output
    (let e = c.outputs_at-output-end.ensures in let past = c.loop-output-test.false in omega arith)
