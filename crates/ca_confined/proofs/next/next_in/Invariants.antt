use Rattle.std.proofs.Common.{◌-◌, ◌≤◌}
use Rattle.ca_confined.specs.code.Next.{NoneInBoth}
use Rattle.ca_confined.proofs.next.next_in.Given as goal

abbrev pub invariant-loop-place : goal.invariant-loop-place
invariant-loop-place l = record {
  none : NoneInBoth l.set l.other l.from l.place;
  low : l.from ≤ l.place;
}

abbrev pub decreases-loop-place : goal.decreases-loop-place
decreases-loop-place l = l.end - l.place
