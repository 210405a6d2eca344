use Rattle.std.proofs.Common.{◌≡◌, length, arith, sym, ◌∙◌}
use Rattle.std.proofs.lemmas.List.{get_or_default, same_lists}
use Rattle.ca_net.specs.declared.trit.Trit.TheVariants.{X}
use Rattle.ca_sweep.proofs.sweep.copy.Goals as goal

pub returns : goal.returns
returns c =
    let room : length c.loop-net.into ≡ length c.args.from.now = c.loop-net.invariant.count ∙ c.requires in
    let end : c.loop-net.net ≡ c.len-net-end.result = omega (arith, c.loop-net.auto.net-end, c.loop-net-test.false) in
    same_lists c.loop-net.into c.args.from.now room
    (λ k d less. get_or_default c.loop-net.into k d X less ∙ c.loop-net.invariant.same k (let l = c.len-net-end.ensures in let n = c.loop-net.invariant.count in omega arith)
    ∙ sym (get_or_default c.args.from.now k d X (omega arith)))
