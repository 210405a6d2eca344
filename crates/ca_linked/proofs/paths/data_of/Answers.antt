use Rattle.std.proofs.Common.{◌<◌, sym, subst}
use Rattle.std.specs.List.{All}
use Rattle.ca_linked.specs.Linked.{Part, net_count, input_nets, output_nets, data_nets}
use Rattle.ca_linked.proofs.PartLemmas.{of_all}
use Rattle.ca_linked.proofs.PathLemmas.{part_marked, data_within}
use Rattle.ca_linked.proofs.paths.data_of.Goals as goal

pub mark_data-requires : goal.mark_data-requires
mark_data-requires c =
    let chip = c.args.draft.now in
    let part = c.part.result.now in
    let ins = of_all (λ (p : Part). All (λ net. net < net_count chip) (input_nets p.body)) chip.parts c.loop-u.u part c.requires.inputs_on_nets c.part.ensures in
    let outs = of_all (λ (p : Part). All (λ net. net < net_count chip) (output_nets p.body)) chip.parts c.loop-u.u part c.requires.outputs_on_nets c.part.ensures in
    subst (λ count. All (λ net. net < count) (data_nets part.body)) (sym c.loop-u.invariant.room) (data_within (λ net. net < net_count chip) part.body ins outs)

pub loop-u-preserved : goal.loop-u-preserved
loop-u-preserved c =
    part_marked data_nets c.args.draft.now.parts (net_count c.args.draft.now) c.loop-u.u c.part.result.now c.loop-u.marks c.mark_data.new.marks c.part.ensures
    c.loop-u.invariant c.mark_data.ensures
