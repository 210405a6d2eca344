use Rattle.std.proofs.Common.{◌≡◌, ◌++◌}
use Rattle.std.specs.Prelude.{replicate}
use Rattle.ca_net.specs.declared.scale.TheConstants.{INNER_NODE}
use Rattle.ca_net.specs.declared.node.NodeKind.TheVariants.{Storage}
use Rattle.ca_flatten.proofs.nodes.push_inner.Given as goal

abbrev pub invariant-loop-node : goal.invariant-loop-node
invariant-loop-node l = l.nodes ≡ l.fn.nodes ++ replicate l._node (Storage INNER_NODE)
