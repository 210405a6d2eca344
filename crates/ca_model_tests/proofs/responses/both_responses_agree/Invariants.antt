use Rattle.std.proofs.Common.{◌≡◌, length}
use Rattle.ca_model_tests.proofs.responses.both_responses_agree.Given as goal

abbrev pub invariant-loop-turn : goal.invariant-loop-turn
invariant-loop-turn g l = length l.state ≡ length l.net.nodes
