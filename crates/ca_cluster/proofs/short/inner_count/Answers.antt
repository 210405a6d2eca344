use Rattle.std.proofs.Common.{◌∙◌, length, ap, arith}
use Rattle.ca_cell.specs.declared.raw.RawCell.{RawCell}
use Rattle.ca_cell.specs.Raw.{is_input, is_output, role_count, circuit_of}
use Rattle.ca_cluster.proofs.ShortLemmas.{inner_is, cell_few}
use Rattle.ca_cluster.proofs.short.inner_count.Goals as goal

pub returns-clause-count : goal.returns-clause-count
returns-clause-count c =
    inner_is c.args.chip.now c.args.u.0 c.inputs.result c.outputs.result c.node_count.result
    (c.inputs.ensures.count ∙ ap (λ (r : RawCell). role_count is_input r.pins) c.cell_at-cell.ensures)
    (c.outputs.ensures.count ∙ ap (λ (r : RawCell). role_count is_output r.pins) c.cell_at-cell.ensures)
    (c.node_count.ensures.count ∙ ap (λ (r : RawCell). length (circuit_of r).nodes) c.cell_at-cell.ensures)

pub returns-clause-few : goal.returns-clause-few
returns-clause-few c =
    let few = cell_few c.cell_at-cell.result.now c.inputs.ensures.kept in
    let count = c.node_count.ensures.count in
    omega arith
