use Rattle.std.proofs.Common.{◌≡◌, length, ◌∙◌, ap, sym, arith, ◌++◌, ◌∷◌, []}
use Rattle.ca_net.specs.declared.wave.Wave.{Wave}
use Rattle.ca_flat.specs.Chip.{net_of}
use Rattle.ca_response.specs.Gives.{wave_at}
use Rattle.ca_sim.specs.Current.{waves_from}
use Rattle.ca_sim.proofs.WaveLemmas.{waves_from-none, waves_from-more, length-waves_from}
use Rattle.ca_sim.proofs.network.Network.input_waves.Goals as goal

pub loop-pin-init : goal.loop-pin-init
loop-pin-init c = c.new-pins.ensures ∙ waves_from-none (net_of c.args.chip.now.core c.args.u) c.args.self.now.waves 0

pub push-requires : goal.push-requires
push-requires c =
    let core = c.args.chip.now.core in
    let count : length c.loop-pin.pins.items ≡ c.loop-pin.pin = ap length c.loop-pin.invariant ∙ length-waves_from (net_of core c.args.u) c.args.self.now.waves 0 c.loop-pin.pin in
    omega arith

pub loop-pin-preserved : goal.loop-pin-preserved
loop-pin-preserved c =
    let core = c.args.chip.now.core in
    let waves = c.args.self.now.waves in
    let more = waves_from-more (net_of core c.args.u) waves c.loop-pin.pin in
    let read : c.get.result ≡ wave_at waves (net_of core c.args.u c.loop-pin.pin) = c.get.ensures ∙ ap (wave_at waves) c.pin_net.ensures in
    c.push.ensures.items ∙ ap (λ list. list ++ c.get.result ∷ []) c.loop-pin.invariant
    ∙ ap (λ (w : Wave). waves_from (net_of core c.args.u) waves 0 c.loop-pin.pin ++ w ∷ []) read ∙ sym more
