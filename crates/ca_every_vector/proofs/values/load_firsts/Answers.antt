use Rattle.std.proofs.Common.{◌≡◌, length, arith, sym, ◌∙◌}
use Rattle.std.proofs.lemmas.List.{length-map, get_or-map, get_or_default, same_lists}
use Rattle.ca_net.specs.declared.trit.Trit.TheVariants.{X}
use Rattle.ca_net.specs.declared.wave.Wave.{Wave}
use Rattle.ca_response.specs.Gives.{unknown_wave}
use Rattle.ca_every_vector.specs.code.Firsts.{firsts_in}
use Rattle.ca_every_vector.proofs.values.load_firsts.Goals as goal

pub returns : goal.returns
returns g c =
    let waves = (g.V.NetWaves.seen c.args.waves.now).good in
    let room : length c.loop-net.values ≡ length waves = c.loop-net.invariant.count ∙ c.requires ∙ sym c.exact.ensures.whole.good in
    let end : c.loop-net.net ≡ c.len-net-end.result = omega (arith, c.loop-net.auto.net-end, c.loop-net-test.false) in
    same_lists c.loop-net.values (firsts_in waves) (room ∙ sym (length-map waves (λ (wave : Wave). wave.first)))
    (λ k d less. get_or_default c.loop-net.values k d X less ∙ c.loop-net.invariant.same k (let l = c.len-net-end.ensures in let n = c.loop-net.invariant.count in omega arith)
    ∙ sym (get_or-map (λ (wave : Wave). wave.first) waves k unknown_wave d (omega arith)))
