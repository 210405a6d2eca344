use Rattle.std.proofs.Common.{◌≡◌, ◌+◌, length, ◌∙◌, ap, sym, arith, ◌++◌, ◌∷◌, []}
use Rattle.ca_net.specs.declared.wave.Wave.{Wave}
use Rattle.ca_flat.specs.Chip.{net_of, output_net, inputs_at}
use Rattle.ca_response.specs.Gives.{wave_at}
use Rattle.ca_sim.specs.Current.{waves_from}
use Rattle.ca_sim.proofs.WaveLemmas.{waves_from-none, waves_from-more, length-waves_from}
use Rattle.ca_sim.proofs.OutputLemmas.{few_outputs_at}
use Rattle.ca_view.specs.Linked.{place_in}
use Rattle.ca_sim.proofs.network.Network.output_waves.Goals as goal

pub loop-output-init : goal.loop-output-init
loop-output-init c = c.new-outputs.ensures ∙ waves_from-none (output_net c.args.chip.now.core c.args.u) c.args.self.now.waves 0

pub push-requires : goal.push-requires
push-requires c =
    let core = c.args.chip.now.core in
    let count : length c.loop-output.outputs.items ≡ c.loop-output.output =
    ap length c.loop-output.invariant ∙ length-waves_from (output_net core c.args.u) c.args.self.now.waves 0 c.loop-output.output in
    let few = few_outputs_at core (place_in c.args.chip.now.ranks) c.linked.ensures.linked.is_chip c.args.u c.requires.placed.known in
    omega arith

pub loop-output-preserved : goal.loop-output-preserved
loop-output-preserved c =
    let core = c.args.chip.now.core in
    let waves = c.args.self.now.waves in
    let more = waves_from-more (output_net core c.args.u) waves c.loop-output.output in
    let inputs : c.inputs_at-first.result ≡ inputs_at core c.args.u = c.inputs_at-first.ensures in
    let read : c.get.result ≡ wave_at waves (output_net core c.args.u c.loop-output.output) =
    c.get.ensures ∙ ap (wave_at waves) (c.pin_net.ensures ∙ ap (λ k. net_of core c.args.u (k + c.loop-output.output)) inputs) in
    c.push.ensures.items ∙ ap (λ list. list ++ c.get.result ∷ []) c.loop-output.invariant
    ∙ ap (λ (w : Wave). waves_from (output_net core c.args.u) waves 0 c.loop-output.output ++ w ∷ []) read ∙ sym more
