use Rattle.ca_judge.specs.code.Outputs.{AreObservedBelow}
use Rattle.ca_judge.proofs.outputs.observed_nets.Given as goal

abbrev pub invariant-loop-net : goal.invariant-loop-net
invariant-loop-net l = AreObservedBelow l.view.lists.observed l.net l.nets.items
