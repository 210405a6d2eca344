use Rattle.std.proofs.Common.{◌<◌, length}
use Rattle.ca_every_vector.proofs.NetLemmas.{all_push, inputs_push}
use Rattle.ca_every_vector.proofs.regions.add_inputs.Goals as goal

pub loop-place-preserved : goal.loop-place-preserved
loop-place-preserved c = record {
  known = all_push c.loop-place.nets.items _ c.input_net.result c.in_ok-push.ensures.items (λ n. n < length c.args.chip.now.core.nets) c.input_net.ensures.known c.loop-place.invariant.known;
  inputs_in = inputs_push c.loop-place.nets.items _ c.input_net.result c.in_ok-push.ensures.items c.args.chip.now.core c.args.inputs.now c.loop-place.place c.input_net.ensures.net
      c.loop-place.invariant.inputs_in;
}
