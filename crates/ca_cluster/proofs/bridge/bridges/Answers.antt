use Rattle.std.proofs.Common.{length, ap, ◌∙◌, arith}
use Rattle.ca_cell.specs.declared.raw.RawCell.{RawCell}
use Rattle.ca_cell.specs.Raw.{is_input, role_count, circuit_of}
use Rattle.ca_view.proofs.CoreFacts.{core_count}
use Rattle.ca_view.proofs.PartFacts.{library_known}
use Rattle.ca_cluster.proofs.PairLemmas.{all_bridges}
use Rattle.ca_cluster.proofs.bridge.bridges.Goals as goal

pub returns : goal.returns
returns c =
    all_bridges c.args.chip.now c.args.u.0 c.inputs.result c.node_count.result c.in_ok-list.list c.requires
    (let n = core_count c.args.chip.now in let k = library_known c.args.chip.now c.args.u.0 c.requires in omega arith)
    (c.inputs.ensures.count ∙ ap (λ (r : RawCell). role_count is_input r.pins) c.cell_at-cell.ensures)
    (c.node_count.ensures.count ∙ ap (λ (r : RawCell). length (circuit_of r).nodes) c.cell_at-cell.ensures)
    (c.in_ok-list.ensures {u = tt})
