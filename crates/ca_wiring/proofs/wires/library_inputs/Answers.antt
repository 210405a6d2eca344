use Rattle.std.proofs.Common.{◌∙◌, ◌++◌, [], ◌∷◌, ap, ap₂, sym, Some, if◌then◌else◌}
use Rattle.std.proofs.lemmas.Option.{slice_get-get_or}
use Rattle.ca_wiring.specs.Wiring.{input_wire}
use Rattle.ca_wiring.proofs.WireLemmas.{inputs_more}
use Rattle.ca_wiring.proofs.wires.library_inputs.Goals as goal

pub loop-k-preserved : goal.loop-k-preserved
loop-k-preserved c =
    let lt = c.loop-k-test.true in
    inputs_more c.args.bits c.args.uses.now c.args.pins.now c.loop-k.k c.index-pins-k.result c.loop-k.wires c.push_if.new.self _
    (slice_get-get_or c.args.pins.now c.loop-k.k c.index-pins-k.result lt ∙ ap Some (sym c.index-pins-k.is)) c.loop-k.invariant
    (c.in_ok-push_if.ensures.ok ∙ ap₂ (λ is wire. c.loop-k.wires ++ (if is then wire ∷ [] else [])) c.is_input.ensures
    (c.input_wire-wire.ensures ∙ ap (input_wire c.args.bits) c.bit_on.ensures))
