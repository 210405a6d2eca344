use Rattle.std.proofs.Common.{◌≡◌, length}
use Rattle.ca_generate_tests.proofs.credits.drawn.Given as goal

abbrev pub invariant-loop : goal.invariant-loop
invariant-loop l = length l.pair ≡ l.counter
