use Rattle.std.proofs.Common.{◌≡◌, ◌+◌, ◌∙◌, ap, subst, arith}
use Rattle.std.proofs.lemmas.List.{get_or_default}
use Rattle.ca_response.specs.Gives.{unknown_wave}
use Rattle.ca_flat.specs.Chip.{inputs_at, outputs_at, net_of}
use Rattle.ca_view.specs.Places.{cell_number}
use Rattle.ca_sim.proofs.Putting.{IsWrittenTo, written_next, written_all}
use Rattle.ca_view.specs.Linked.{place_in}
use Rattle.ca_sim.proofs.network.Network.write.Goals as goal

pub loop-output-preserved : goal.loop-output-preserved
loop-output-preserved c =
    let core = c.args.chip.now.core in
    let place_of = place_in c.args.chip.now.ranks in
    let inputs : c.inputs_at-first.result ≡ inputs_at core c.args.u = c.inputs_at-first.ensures in
    written_next core place_of (cell_number c.args.chip.now.chip) c.linked.ensures.linked c.args.u c.requires.placed.known c.args.outputs.now
    c.loop-output.output c.pin_net.result _ c.args.self.now c.loop-output.self c.put.new.self (omega arith)
    (c.pin_net.ensures ∙ ap (λ k. net_of core c.args.u (k + c.loop-output.output)) inputs) (get_or_default c.args.outputs.now c.loop-output.output _ unknown_wave (omega arith)) c.loop-output.invariant c.put.ensures

pub returns : goal.returns
returns c =
    let core = c.args.chip.now.core in
    let place_of = place_in c.args.chip.now.ranks in
    written_all core place_of (cell_number c.args.chip.now.chip) c.linked.ensures.linked c.args.u c.requires.placed.known c.args.outputs.now c.args.self.now c.loop-output.self
    (subst (λ k. IsWrittenTo core place_of c.args.u k c.args.outputs.now c.args.self.now c.loop-output.self)
    (let e : c.loop-output.output ≡ outputs_at core c.args.u = omega arith in e) c.loop-output.invariant)
