use Rattle.ca_examiner.specs.code.Ends.{IsNoneOppositeBelow}
use Rattle.ca_examiner.proofs.detect.first_opposite.Given as goal

abbrev pub invariant-loop-output : goal.invariant-loop-output
invariant-loop-output g l = IsNoneOppositeBelow (g.V.NetWaves.seen l.waves) l.output l.outputs
