use Rattle.std.proofs.Common.{length}
use Rattle.ca_block.specs.Groups.{AreWithin}
use Rattle.ca_block.proofs.groups.begin.Given as goal

abbrev pub invariant-loop-node : goal.invariant-loop-node
invariant-loop-node g l = AreWithin l.node (length (g.N.Network.circuit l.net).nodes) l.labels
