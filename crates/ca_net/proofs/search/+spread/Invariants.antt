use Rattle.std.proofs.Common.{◌≡◌}
use Rattle.std.specs.Prelude.{not}
use Rattle.std.specs.List.{count_by}
use Rattle.ca_net.proofs.SpreadTurns.{Explored}
use Rattle.ca_net.proofs.search.+spread.Given as goal

abbrev pub decreases-spread : goal.decreases-spread
decreases-spread g l = count_by not l.on_path.now

abbrev pub invariant-loop-i : goal.invariant-loop-i
invariant-loop-i g l = record {
  same : l.on_path ≡ l.fn.on_path;
  explored : Explored (g.N.Network.circuit l.net) l.state l.kind l.floor l.fn.on_path l.end.node.0 l.end.strength l.i l.fn.reached l.reached;
}
