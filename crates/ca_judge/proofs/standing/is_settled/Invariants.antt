use Rattle.ca_judge.specs.code.Ends.{AreAlikeBelow}
use Rattle.ca_judge.proofs.standing.is_settled.Given as goal

abbrev pub invariant-loop-net : goal.invariant-loop-net
invariant-loop-net g l = AreAlikeBelow (g.V.NetWaves.seen l.waves) l.net-index l.outputs
