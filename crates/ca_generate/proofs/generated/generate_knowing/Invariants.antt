use Rattle.std.proofs.Common.{◌≡◌}
use Rattle.ca_generate.specs.code.Progress.{WorkStands}
use Rattle.ca_generate.proofs.generated.generate_knowing.Given as goal

abbrev pub invariant-loop-place : goal.invariant-loop-place
invariant-loop-place g l =
    WorkStands (g.B.Simulator.task l.fn.bench) l.place l.work
    × (g.B.Simulator.task l.bench ≡ g.B.Simulator.task l.fn.bench)
