use Rattle.ca_relax.specs.Groups.{HaveOwnStrengths}
use Rattle.ca_levels.proofs.levels.copy_strengths.Given as goal

abbrev pub invariant-loop-node : goal.invariant-loop-node
invariant-loop-node g l = HaveOwnStrengths (g.N.Network.circuit l.net) l.node l.own
