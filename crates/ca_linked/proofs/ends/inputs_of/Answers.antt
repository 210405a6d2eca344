use Rattle.std.proofs.Common.{◌∙◌, ◌++◌, true, ap, sym}
use Rattle.std.specs.Prelude.{take}
use Rattle.std.specs.List.{flat_map}
use Rattle.std.proofs.lemmas.List.{append_assoc}
use Rattle.ca_linked.specs.declared.parts.Part.{Part}
use Rattle.ca_linked.specs.Linked.{port_nets, q_nets}
use Rattle.ca_linked.proofs.EndLemmas.{flat_more}
use Rattle.ca_linked.proofs.ends.inputs_of.Goals as goal

pub loop-u-preserved : goal.loop-u-preserved
loop-u-preserved c =
    let chip = c.args.draft.now in
    let body = c.part.result.now.body in
    let first = flat_map (λ (part : Part). q_nets part.body) (take c.loop-u.u chip.parts) in
    c.in_ok-push_q.ensures {u = tt} ∙ ap (λ nets. nets ++ q_nets body) c.loop-u.invariant
    ∙ append_assoc (port_nets chip true) first (q_nets body)
    ∙ ap (λ l. port_nets chip true ++ l) (sym (flat_more (λ (part : Part). q_nets part.body) chip.parts c.loop-u.u c.part.result.now c.part.ensures))
