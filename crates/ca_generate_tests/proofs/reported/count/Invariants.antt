use Rattle.std.proofs.Common.{◌≤◌}
use Rattle.ca_generate_tests.proofs.reported.count.Given as goal

abbrev pub invariant-loop-place : goal.invariant-loop-place
invariant-loop-place l = l.count ≤ l.place
