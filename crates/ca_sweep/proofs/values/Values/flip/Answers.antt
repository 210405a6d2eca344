use Rattle.std.proofs.Common.{◌≡◌, ◌+◌, arith, ap, ◌∙◌}
use Rattle.ca_net.specs.State.{value_at}
use Rattle.ca_flat.specs.Chip.{net_of, output_net, inputs_at, outputs_at}
use Rattle.ca_view.specs.Linked.{place_in}
use Rattle.ca_sweep.specs.Seen.{flipped_outputs, flipped_if, is_flipped}
use Rattle.ca_sweep.proofs.ChangeLemmas.{written_more, still}
use Rattle.ca_sweep.proofs.values.Values.flip.Goals as goal

pub loop-output-preserved : goal.loop-output-preserved
loop-output-preserved c =
    let core = c.args.chip.now.core in
    let place_of = place_in c.args.chip.now.ranks in
    let is_chip = c.linked.ensures.linked.is_chip in
    let inputs : c.inputs_at-first.result ≡ inputs_at core c.args.u = c.inputs_at-first.ensures in
    let outputs : c.outputs_at-output-end.result ≡ outputs_at core c.args.u = c.outputs_at-output-end.ensures in
    let flipped = flipped_outputs core c.args.u (value_at c.args.self.now.values) c.args.flips in
    let net_is : c.pin_net-net.result ≡ output_net core c.args.u c.loop-output.output = c.pin_net-net.ensures ∙ ap (λ k. net_of core c.args.u (k + c.loop-output.output)) inputs in
    let value_is : c.get-value.result ≡ value_at c.args.self.now.values (output_net core c.args.u c.loop-output.output) =
    c.get-value.ensures ∙ ap (value_at c.loop-output.self.values) net_is
    ∙ still core place_of is_chip c.args.u c.requires.placed.known flipped c.loop-output.output c.args.self.now c.loop-output.self (omega arith) c.loop-output.invariant in
    written_more core place_of is_chip c.args.u c.requires.placed.known flipped
    c.loop-output.output c.pin_net-net.result c.flipped_if.result c.args.self.now c.loop-output.self c.put.new.self (omega arith)
    net_is (c.flipped_if.ensures ∙ ap (λ b. flipped_if b c.get-value.result) c.is_flipped.ensures ∙ ap (flipped_if (is_flipped c.args.flips c.loop-output.output)) value_is)
    c.loop-output.invariant c.put.ensures
