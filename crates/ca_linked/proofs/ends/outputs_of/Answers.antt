use Rattle.std.proofs.Common.{◌∙◌, ◌++◌, false, ap, sym}
use Rattle.std.specs.Prelude.{take}
use Rattle.std.specs.List.{flat_map}
use Rattle.std.proofs.lemmas.List.{append_assoc}
use Rattle.ca_linked.specs.declared.parts.Part.{Part}
use Rattle.ca_linked.specs.Linked.{port_nets, d_nets}
use Rattle.ca_linked.proofs.EndLemmas.{flat_more}
use Rattle.ca_linked.proofs.ends.outputs_of.Goals as goal

pub loop-u-preserved : goal.loop-u-preserved
loop-u-preserved c =
    let chip = c.args.draft.now in
    let body = c.part.result.now.body in
    let first = flat_map (λ (part : Part). d_nets part.body) (take c.loop-u.u chip.parts) in
    c.in_ok-push_d.ensures {u = tt} ∙ ap (λ nets. nets ++ d_nets body) c.loop-u.invariant
    ∙ append_assoc (port_nets chip false) first (d_nets body)
    ∙ ap (λ l. port_nets chip false ++ l) (sym (flat_more (λ (part : Part). d_nets part.body) chip.parts c.loop-u.u c.part.result.now c.part.ensures))
