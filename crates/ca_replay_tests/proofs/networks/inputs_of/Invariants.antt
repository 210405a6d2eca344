use Rattle.ca_replay_tests.specs.code.Inputs.{AreInputs}
use Rattle.ca_replay_tests.proofs.networks.inputs_of.Given as goal

abbrev pub invariant-loop-n : goal.invariant-loop-n
invariant-loop-n l = AreInputs l.net l.n l.inputs
