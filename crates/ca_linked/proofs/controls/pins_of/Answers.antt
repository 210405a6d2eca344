use Rattle.std.proofs.Common.{◌<◌, sym, subst}
use Rattle.std.specs.List.{All}
use Rattle.ca_linked.specs.declared.parts.Part.{Part}
use Rattle.ca_linked.specs.Linked.{net_count, input_nets}
use Rattle.ca_linked.proofs.PartLemmas.{of_all}
use Rattle.ca_linked.proofs.PathLemmas.{part_marked}
use Rattle.ca_linked.proofs.controls.pins_of.Goals as goal

pub mark_inputs-requires : goal.mark_inputs-requires
mark_inputs-requires c =
    let chip = c.args.draft.now in
    let part = c.part.result.now in
    subst (λ count. All (λ net. net < count) (input_nets part.body)) (sym c.loop-u.invariant.room)
    (of_all (λ (p : Part). All (λ net. net < net_count chip) (input_nets p.body)) chip.parts c.loop-u.u part c.requires.inputs_on_nets c.part.ensures)

pub loop-u-preserved : goal.loop-u-preserved
loop-u-preserved c =
    part_marked input_nets c.args.draft.now.parts (net_count c.args.draft.now) c.loop-u.u c.part.result.now c.loop-u.marks c.mark_inputs.new.marks c.part.ensures
    c.loop-u.invariant c.mark_inputs.ensures
