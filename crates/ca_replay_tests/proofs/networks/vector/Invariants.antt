use Rattle.std.proofs.Common.{◌≡◌, length}
use Rattle.ca_replay_tests.proofs.networks.vector.Given as goal

abbrev pub invariant-loop-n : goal.invariant-loop-n
invariant-loop-n l = length l.vector ≡ l.nodes
