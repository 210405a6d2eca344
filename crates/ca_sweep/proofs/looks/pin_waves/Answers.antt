use Rattle.std.proofs.Common.{◌≡◌, ◌+◌, ◌<◌, length, arith, refl, subst, sym, ap, ◌∙◌}
use Rattle.std.specs.List.{All}
use Rattle.std.proofs.lemmas.List.{get_or_default}
use Rattle.std.proofs.lemmas.List.Elements.{All-push}
use Rattle.ca_net.specs.Wave.{IsWave}
use Rattle.ca_response.specs.Gives.{unknown_wave, wave_at}
use Rattle.ca_flat.specs.Chip.{inputs_at, net_of}
use Rattle.ca_sweep.proofs.FaultyLemmas.{pins_more}
use Rattle.ca_sweep.proofs.looks.pin_waves.Goals as goal

pub loop-pin-preserved : goal.loop-pin-preserved
loop-pin-preserved c =
    let count : c.inputs_at-pin-end.result ≡ inputs_at c.args.chip.now.core c.args.u =
    c.inputs_at-pin-end.ensures in
    let on_nets : net_of c.args.chip.now.core c.args.u c.loop-pin.pin < length c.args.waves.now =
    subst (λ n. net_of c.args.chip.now.core c.args.u c.loop-pin.pin < n) (sym c.requires.nets)
    (c.linked.ensures.linked.is_chip.on_nets c.args.u c.loop-pin.pin c.requires.placed.known (omega (arith, c.loop-pin-test.true))) in
    record {
      count = c.push.ensures.len ∙ ap (λ n. n + 1) c.loop-pin.invariant.count;
      each = pins_more (λ k wave. wave ≡ wave_at c.args.waves.now (net_of c.args.chip.now.core c.args.u k)) c.loop-pin.pins.items c.push.new.self.items _ c.loop-pin.pin
          c.loop-pin.invariant.count c.push.ensures.items c.loop-pin.invariant.each
          (get_or_default c.args.waves.now c.pin_net.result _ unknown_wave (subst (λ net. net < length c.args.waves.now) (sym c.pin_net.ensures) on_nets)
          ∙ ap (wave_at c.args.waves.now) c.pin_net.ensures);
      are_waves = subst (All IsWave) (sym c.push.ensures.items) (All-push IsWave c.loop-pin.pins.items _ c.loop-pin.invariant.are_waves (c.if-not-is_wave.ensures refl));
    }
