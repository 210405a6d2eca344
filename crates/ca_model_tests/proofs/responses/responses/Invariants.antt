use Rattle.std.proofs.Common.{◌≡◌, length}
use Rattle.ca_model_tests.proofs.responses.responses.Given as goal

abbrev pub invariant-loop-n : goal.invariant-loop-n
invariant-loop-n g l = l.marks ≡ length l.net.nodes
