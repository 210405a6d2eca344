use Rattle.std.proofs.Common.{◌≡◌}
use Rattle.ca_net.specs.code.Walk.{AreStrongestFrom}
use Rattle.ca_net.proofs.search.find_strongest.Given as goal

abbrev pub invariant-loop-root : goal.invariant-loop-root
invariant-loop-root g l = record {
  same : l.on_path ≡ l.fn.on_path;
  strongest : AreStrongestFrom (g.N.Network.circuit l.net) l.state l.root l.strongest;
}
