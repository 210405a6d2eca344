use Rattle.ca_expected.specs.code.Wrong.{AreRightUpTo}
use Rattle.ca_expected.proofs.wrong.wrong_output.Given as goal

abbrev pub invariant-loop-output : goal.invariant-loop-output
invariant-loop-output g l = AreRightUpTo (g.S.Simulator.task l.sim).chip (g.S.Simulator.bits l.sim) l.values l.output
