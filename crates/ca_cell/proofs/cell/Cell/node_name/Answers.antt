use Rattle.std.proofs.Common.{◌<◌, ◌≤◌, length, sym, ap, ◌∙◌, subst, arith}
use Rattle.ca_cell.specs.declared.raw.RawCell.{RawCell}
use Rattle.ca_cell.specs.declared.rule.TheConstants.{MOST_NODES}
use Rattle.ca_cell.specs.Rules.{node_count}
use Rattle.ca_cell.proofs.CircuitLemmas.{few_nodes, length-nodes_of}
use Rattle.ca_cell.proofs.NodeLemmas.{has_net}
use Rattle.ca_cell.proofs.cell.Cell.node_name.Goals as goal

pub node_of-requires-clause-few : goal.node_of-requires-clause-few
node_of-requires-clause-few c =
    subst (λ (raw : RawCell). node_count raw ≤ MOST_NODES) (sym c.raw-raw.ensures.same) (few_nodes c.args.self.now c.raw-raw.ensures.kept)

pub unreachable-requires : goal.unreachable-requires
unreachable-requires c =
    let cell = c.args.self.now in
    let within : c.args.n.0 < node_count cell = subst (λ count. c.args.n.0 < count) (length-nodes_of cell) c.requires in
    let net = has_net cell c.raw-raw.ensures.is_raw.pins c.raw-raw.ensures.kept c.args.n.0 within in
    let all = c.len-place-end.ensures ∙ ap (λ (raw : RawCell). length raw.nets) c.raw-raw.ensures.same in
    c.loop-place.invariant net.place (omega arith) net.is_node
