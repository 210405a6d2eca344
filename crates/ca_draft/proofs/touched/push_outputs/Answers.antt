use Rattle.std.proofs.Common.{◌∙◌, ap, sym, ◌++◌, [], ◌∷◌}
use Rattle.std.specs.Prelude.{take}
use Rattle.std.proofs.lemmas.List.{append_assoc}
use Rattle.ca_linked.specs.Linked.{output_nets}
use Rattle.ca_linked.proofs.EndLemmas.{take_more}
use Rattle.ca_draft.proofs.touched.push_outputs.Goals as goal

pub loop-pin-preserved : goal.loop-pin-preserved
loop-pin-preserved c =
    (c.in_ok-push.ensures {u = tt}).items ∙ ap (λ l. l ++ c.output.result ∷ []) c.loop-pin.invariant
    ∙ append_assoc c.args.wires.now.items (take c.loop-pin.pin (output_nets c.args.body.now)) (c.output.result ∷ [])
    ∙ ap (λ l. c.args.wires.now.items ++ l) (sym (take_more (output_nets c.args.body.now) c.loop-pin.pin c.output.result c.output.ensures))
