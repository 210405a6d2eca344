use Rattle.ca_expected.specs.code.Kept.{AreFirstEnds}
use Rattle.ca_expected.proofs.values.good_ends.Given as goal

abbrev pub invariant-loop-output : goal.invariant-loop-output
invariant-loop-output g l = AreFirstEnds (g.S.Simulator.task l.sim).chip (g.S.Simulator.bits l.sim) l.output l.values
