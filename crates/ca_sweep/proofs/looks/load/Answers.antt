use Rattle.std.proofs.Common.{◌≡◌, ◌<◌, length, set, arith, below_more, sym, ◌∙◌}
use Rattle.std.proofs.lemmas.List.{get_or_default, get_or-set_same, get_or-set_other, length-set, same_lists}
use Rattle.ca_response.specs.Gives.{unknown_wave, wave_at}
use Rattle.ca_sweep.proofs.looks.load.Goals as goal

pub loop-net-preserved : goal.loop-net-preserved
loop-net-preserved g c =
    let into = c.loop-net.into.items in
    let net = c.loop-net.net in
    let within : net < length into = let l = c.len-net-end.ensures in let n = c.loop-net.invariant.count in omega (arith, c.loop-net-test.true) in
    record {
      count = length-set into net c.good.result ∙ c.loop-net.invariant.count;
      same = below_more (λ k. wave_at (set c.loop-net.into.items c.loop-net.net c.good.result) k ≡ wave_at (g.V.NetWaves.seen c.args.waves.now).good k) net
          (λ k less. get_or-set_other into net k c.good.result unknown_wave (λ same. omega (arith, same, less)) ∙ c.loop-net.invariant.same k less)
          (get_or-set_same into net c.good.result unknown_wave within ∙ c.good.ensures);
    }

pub returns : goal.returns
returns g c =
    let waves = (g.V.NetWaves.seen c.args.waves.now).good in
    let room : length c.loop-net.into.items ≡ length waves = c.loop-net.invariant.count ∙ c.requires ∙ sym c.exact.ensures.whole.good in
    let end : c.loop-net.net ≡ c.len-net-end.result = omega (arith, c.loop-net.auto.net-end, c.loop-net-test.false) in
    same_lists c.loop-net.into.items waves room
    (λ k d less. get_or_default c.loop-net.into.items k d unknown_wave less ∙ c.loop-net.invariant.same k (let l = c.len-net-end.ensures in let n = c.loop-net.invariant.count in omega arith)
    ∙ sym (get_or_default waves k d unknown_wave (omega arith)))
