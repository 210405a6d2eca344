use Rattle.std.proofs.Common.{length, ◌∙◌, ap, sym, subst}
use Rattle.std.specs.List.{All}
use Rattle.ca_net.specs.Wave.{IsWave}
use Rattle.ca_flat.specs.Chip.{cell_at, net_of, inputs_at}
use Rattle.ca_flat.specs.Flat.{circuit_in}
use Rattle.ca_response.specs.Gives.{Gives}
use Rattle.ca_sim.specs.Current.{input_waves}
use Rattle.ca_sim.proofs.WaveLemmas.{length-waves_from, all_waves_from}
use Rattle.ca_sim.proofs.network.Network.is_current.Goals as goal

pub respond-outputs-requires-clause-pins : goal.respond-outputs-requires-clause-pins
respond-outputs-requires-clause-pins c =
    let core = c.args.chip.now.core in
    ap length (c.input_waves-pins.ensures) ∙ length-waves_from (net_of core c.args.u) c.args.self.now.waves 0 (inputs_at core c.args.u)

pub respond-outputs-requires-clause-waves : goal.respond-outputs-requires-clause-waves
respond-outputs-requires-clause-waves c =
    let core = c.args.chip.now.core in
    subst (All IsWave) (sym (c.input_waves-pins.ensures))
    (all_waves_from (net_of core c.args.u) c.args.self.now.waves c.requires.ready.are_waves (inputs_at core c.args.u))

pub returns-clause-current : goal.returns-clause-current
returns-clause-current c same =
    let core = c.args.chip.now.core in
    let gives = subst (λ pins. Gives (cell_at core c.args.u) (circuit_in core c.args.aim c.args.u) pins c.respond-outputs.result.items)
    c.input_waves-pins.ensures c.respond-outputs.ensures.gives in
    subst (Gives (cell_at core c.args.u) (circuit_in core c.args.aim c.args.u) (input_waves core c.args.self.now.waves c.args.u))
    (sym c.as_slice.ensures.value ∙ c.same_waves.ensures same ∙ c.as_slice-2.ensures.value ∙ c.output_waves.ensures) gives
