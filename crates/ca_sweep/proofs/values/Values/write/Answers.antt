use Rattle.std.proofs.Common.{◌≡◌, ◌+◌, arith, ap, ◌∙◌}
use Rattle.ca_flat.specs.Chip.{net_of, inputs_at, outputs_at}
use Rattle.ca_view.specs.Linked.{place_in}
use Rattle.ca_static.specs.LastTable.{last_at}
use Rattle.ca_sweep.proofs.ChangeLemmas.{written_more}
use Rattle.ca_sweep.proofs.values.Values.write.Goals as goal

pub loop-output-preserved : goal.loop-output-preserved
loop-output-preserved c =
    let core = c.args.chip.now.core in
    let inputs : c.inputs_at-first.result ≡ inputs_at core c.args.w = c.inputs_at-first.ensures in
    let outputs : c.outputs_at-output-end.result ≡ outputs_at core c.args.w = c.outputs_at-output-end.ensures in
    written_more core (place_in c.args.chip.now.ranks) c.linked.ensures.linked.is_chip c.args.w c.requires.placed.known (last_at c.args.table.now c.args.number)
    c.loop-output.output c.pin_net.result c.last.result c.args.self.now c.loop-output.self c.put.new.self (omega arith)
    (c.pin_net.ensures ∙ ap (λ k. net_of core c.args.w (k + c.loop-output.output)) inputs) c.last.ensures c.loop-output.invariant c.put.ensures
