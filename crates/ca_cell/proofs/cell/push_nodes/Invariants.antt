use Rattle.std.proofs.Common.{◌≡◌, ◌++◌, replicate}
use Rattle.ca_cell.proofs.cell.push_nodes.Given as goal

abbrev pub invariant-loop-node : goal.invariant-loop-node
invariant-loop-node l = l.nodes ≡ l.fn.nodes ++ replicate l._node l.kind
