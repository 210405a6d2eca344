use Rattle.std.proofs.Common.{◌≡◌, ◌≢◌, refl, ◌+◌, arith, subst, below_more, ap, ◌∙◌}
use Rattle.ca_net.specs.State.{value_at}
use Rattle.ca_net.specs.declared.trit.Trit.TheVariants.{X}
use Rattle.ca_flat.specs.Chip.{net_of, output_net, inputs_at, outputs_at}
use Rattle.ca_sweep.specs.code.Kept.{AreReadersMarked}
use Rattle.ca_sweep.proofs.clear.are_outputs_clear.Goals as goal

pub loop-output-preserved : goal.loop-output-preserved
loop-output-preserved c =
    let core = c.args.chip.now.core in
    let inputs : c.inputs_at-first.result ≡ inputs_at core c.args.u = c.inputs_at-first.ensures in
    let net_is : c.pin_net-net.result ≡ output_net core c.args.u c.loop-output.output = c.pin_net-net.ensures ∙ ap (λ k. net_of core c.args.u (k + c.loop-output.output)) inputs in
    below_more (λ output. (value_at c.args.lasts.now (output_net core c.args.u output) ≢ X) × AreReadersMarked core c.args.marks.now (output_net core c.args.u output))
    c.loop-output.output c.loop-output.invariant (
      subst (λ n. value_at c.args.lasts.now n ≢ X) net_is (λ e. let r : c.get.result ≡ X = c.get.ensures ∙ e in let h = rw r at c.if-eq.ensures in cc),
      subst (AreReadersMarked core c.args.marks.now) net_is (c.if-not-are_readers_marked.ensures refl),
    )

pub returns : goal.returns
returns c = λ is output within.
    let core = c.args.chip.now.core in
    let outputs : c.outputs_at-output-end.result ≡ outputs_at core c.args.u = c.outputs_at-output-end.ensures in
    c.loop-output.invariant output (omega arith)
