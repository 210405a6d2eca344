use Rattle.std.proofs.Common.{◌≡◌, length, replicate, arith, sym, ◌∙◌}
use Rattle.std.proofs.lemmas.List.{length-replicate, get_or-replicate, get_or_default, same_lists}
use Rattle.ca_net.specs.declared.trit.Trit.TheVariants.{X}
use Rattle.ca_sim.proofs.networks.forget.Goals as goal

pub returns : goal.returns
returns c =
    let count = length c.args.bits.now in
    let long : length c.loop-bit.bits ≡ count = c.loop-bit.invariant.count in
    let end : c.loop-bit.bit ≡ c.len-bit-end.result = omega (arith, c.loop-bit.auto.bit-end, c.loop-bit-test.false) in
    same_lists c.loop-bit.bits (replicate count X) (long ∙ sym (length-replicate count X))
    (λ k d less. get_or_default c.loop-bit.bits k d X less ∙ c.loop-bit.invariant.unknown k (let l = c.len-bit-end.ensures in omega arith)
    ∙ sym (get_or-replicate count k X d (omega arith)))
