use Rattle.std.proofs.Common.{◌≡◌, length, replicate, false}
use Rattle.ca_net.specs.declared.trit.Trit.TheVariants.{Zero, One}
use Rattle.ca_net.proofs.Gives.{GivesFrom}
use Rattle.ca_net.proofs.response.storage_response.Given as goal

abbrev pub invariant-loop-root : goal.invariant-loop-root
invariant-loop-root g l = record {
  unmarked : l.on_path ≡ replicate (length (g.N.Network.circuit l.net).nodes) false;
  zero : GivesFrom (g.N.Network.circuit l.net) l.state l.node.0 Zero l.root l.gives_zero;
  one : GivesFrom (g.N.Network.circuit l.net) l.state l.node.0 One l.root l.gives_one;
}
