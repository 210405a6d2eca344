use Rattle.std.proofs.Common.{◌∙◌, ap}
use Rattle.ca_cell.specs.declared.raw.RawPin.{RawPin}
use Rattle.std.specs.Prelude.{List, ◌+◌}
use Rattle.ca_cell.specs.Raw.{is_input, is_output}
use Rattle.ca_wiring.specs.Wiring.{names_with, input_wires, output_wires, open_count}
use Rattle.ca_draft.proofs.InstanceLemmas.{gate_is}
use Rattle.ca_draft.proofs.instances.gate.Goals as goal

pub returns : goal.returns
returns c =
    let pins = c.as_slice-pins.ensures in
    let outputs = c.in_ok-outputs.ensures {u = tt} in
    gate_is c.args.library.now c.args.bits c.args.uses.now c.args.place c.args.raw.now c.args.own.now c.library_outputs.new.own
    c.in_ok-inputs.inputs c.in_ok-outputs.outputs c.requires.cell c.requires.is_raw c.requires.keeps
    (c.in_ok-inputs.ensures {u = tt} ∙ ap (λ (l : List RawPin). input_wires c.args.bits c.args.uses.now (names_with is_input l)) pins)
    (outputs.wires ∙ ap (λ (l : List RawPin). output_wires c.args.bits c.args.uses.now c.args.own.now (names_with is_output l)) pins)
    (outputs.next ∙ ap (λ (l : List RawPin). c.args.own.now + open_count c.args.uses.now (names_with is_output l)) pins)
