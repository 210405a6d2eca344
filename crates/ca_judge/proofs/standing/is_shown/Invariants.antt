use Rattle.ca_judge.specs.code.Ends.{IsNoneOppositeBelow}
use Rattle.ca_judge.proofs.standing.is_shown.Given as goal

abbrev pub invariant-loop-net : goal.invariant-loop-net
invariant-loop-net g l = IsNoneOppositeBelow (g.V.NetWaves.seen l.waves) l.net-index l.outputs
