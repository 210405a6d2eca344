use Rattle.std.proofs.Common.{◌≡◌, ◌+◌, arith, ap, refl, ◌∙◌}
use Rattle.ca_net.specs.State.{value_at}
use Rattle.ca_flat.specs.Chip.{net_of, inputs_at, outputs_at}
use Rattle.ca_sweep.proofs.HeldLemmas.{back_more}
use Rattle.ca_sweep.proofs.values.Values.give_back.Goals as goal

pub loop-output-preserved : goal.loop-output-preserved
loop-output-preserved c =
    let core = c.args.chip.now.core in
    let inputs : c.inputs_at-first.result ≡ inputs_at core c.args.w = c.inputs_at-first.ensures in
    let outputs : c.outputs_at-output-end.result ≡ outputs_at core c.args.w = c.outputs_at-output-end.ensures in
    let on = c.linked.ensures.linked.is_chip.on_nets c.args.w (c.inputs_at-first.result + c.loop-output.output) c.requires.placed.known (omega arith) in
    let at = c.pin_net-net.ensures in
    let nets = c.loop-output.invariant.nets in
    back_more core c.args.w (value_at c.args.lasts.now) c.loop-output.output c.pin_net-net.result c.get.result c.args.self.now c.loop-output.self (record { values = c.set.new.self; due = c.loop-output.self.due }) c.loop-output.invariant
    (c.pin_net-net.ensures ∙ ap (λ k. net_of core c.args.w (k + c.loop-output.output)) inputs) c.get.ensures (omega arith) c.set.ensures refl
