use Rattle.std.proofs.Common.{◌≤◌, length}
use Rattle.ca_sweep.specs.code.Firsts.{AreFirstsFrom}
use Rattle.ca_sweep.proofs.firsts.firsts_of.Given as goal

abbrev pub invariant-outputs : goal.invariant-outputs
invariant-outputs l = record {
  within : l.left ≤ length l.outputs;
  are : AreFirstsFrom l.outputs l.nets l.left l.firsts.items;
}

abbrev pub decreases-outputs : goal.decreases-outputs
decreases-outputs l = l.left
