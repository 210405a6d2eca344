use Rattle.ca_generate.specs.code.Progress.{IsScreened}
use Rattle.ca_generate.proofs.work.screen.Given as goal

abbrev pub invariant-loop-place : goal.invariant-loop-place
invariant-loop-place g l = IsScreened (g.B.Simulator.task l.bench) l.place l.credits
