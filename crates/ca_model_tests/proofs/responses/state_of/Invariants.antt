use Rattle.std.proofs.Common.{◌≡◌, take}
use Rattle.ca_model_tests.proofs.responses.state_of.Given as goal

abbrev pub invariant-loop-value : goal.invariant-loop-value
invariant-loop-value l = l.state ≡ take l.value-index l.values
