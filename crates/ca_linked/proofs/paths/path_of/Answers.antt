use Rattle.std.proofs.Common.{◌<◌, sym, subst}
use Rattle.std.specs.List.{All}
use Rattle.ca_linked.specs.Linked.{Part, net_count, input_nets, output_nets, path_nets}
use Rattle.ca_linked.proofs.PartLemmas.{of_all}
use Rattle.ca_linked.proofs.PathLemmas.{part_marked, path_within}
use Rattle.ca_linked.proofs.paths.path_of.Goals as goal

pub mark_path-requires : goal.mark_path-requires
mark_path-requires c =
    let chip = c.args.draft.now in
    let part = c.part.result.now in
    let ins = of_all (λ (p : Part). All (λ net. net < net_count chip) (input_nets p.body)) chip.parts c.loop-u.u part c.requires.inputs_on_nets c.part.ensures in
    let outs = of_all (λ (p : Part). All (λ net. net < net_count chip) (output_nets p.body)) chip.parts c.loop-u.u part c.requires.outputs_on_nets c.part.ensures in
    subst (λ count. All (λ net. net < count) (path_nets part.body)) (sym c.loop-u.invariant.room) (path_within (λ net. net < net_count chip) part.body ins outs)

pub loop-u-preserved : goal.loop-u-preserved
loop-u-preserved c =
    part_marked path_nets c.args.draft.now.parts (net_count c.args.draft.now) c.loop-u.u c.part.result.now c.loop-u.marks c.mark_path.new.marks c.part.ensures
    c.loop-u.invariant c.mark_path.ensures
