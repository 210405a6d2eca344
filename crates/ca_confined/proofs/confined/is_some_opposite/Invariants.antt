use Rattle.std.proofs.Common.{◌-◌, ◌≤◌, length}
use Rattle.ca_confined.specs.code.Ends.{NoneOpposite}
use Rattle.ca_confined.proofs.confined.is_some_opposite.Given as goal

abbrev pub invariant-loop-net : goal.invariant-loop-net
invariant-loop-net l = record {
  none : NoneOpposite l.outputs l.good l.faulty l.from;
  within : l.from ≤ length l.good;
}

abbrev pub decreases-loop-net : goal.decreases-loop-net
decreases-loop-net l = length l.good - l.from
