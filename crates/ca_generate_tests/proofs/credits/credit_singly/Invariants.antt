use Rattle.std.proofs.Common.{◌≡◌, length}
use Rattle.ca_generate_tests.proofs.credits.credit_singly.Given as goal

abbrev pub invariant-loop-number : goal.invariant-loop-number
invariant-loop-number g l =
    (length l.credits ≡ length (g.B.Simulator.task l.fn.bench).defects)
    × (g.B.Simulator.task l.bench ≡ g.B.Simulator.task l.fn.bench)
