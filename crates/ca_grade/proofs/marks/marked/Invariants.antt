use Rattle.ca_grade.specs.code.Table.{AreMarkedUpTo}
use Rattle.ca_grade.proofs.marks.marked.Given as goal

abbrev pub invariant-loop-place : goal.invariant-loop-place
invariant-loop-place g l = AreMarkedUpTo (g.B.Simulator.task l.bench) l.place l.credits
