use Rattle.ca_block.specs.code.Touched.{AreNodesMarked}
use Rattle.ca_block.proofs.touched.mark_nodes.Given as goal

abbrev pub invariant-loop-node : goal.invariant-loop-node
invariant-loop-node l = AreNodesMarked l.node l.labels l.changed l.marks
