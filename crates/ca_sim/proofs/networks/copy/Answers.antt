use Rattle.std.proofs.Common.{◌≡◌, length, arith, sym, ◌∙◌}
use Rattle.std.proofs.lemmas.List.{get_or_default, same_lists}
use Rattle.ca_net.specs.declared.trit.Trit.TheVariants.{X}
use Rattle.ca_sim.proofs.networks.copy.Goals as goal

pub returns : goal.returns
returns c =
    let room : length c.loop-bit.into ≡ length c.args.from.now = c.loop-bit.invariant.count ∙ c.requires in
    let end : c.loop-bit.bit ≡ c.len-bit-end.result = omega (arith, c.loop-bit.auto.bit-end, c.loop-bit-test.false) in
    same_lists c.loop-bit.into c.args.from.now room
    (λ k d less. get_or_default c.loop-bit.into k d X less ∙ c.loop-bit.invariant.same k (let l = c.len-bit-end.ensures in let n = c.loop-bit.invariant.count in omega arith)
    ∙ sym (get_or_default c.args.from.now k d X (omega arith)))
