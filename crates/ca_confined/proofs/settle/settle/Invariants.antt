use Rattle.std.proofs.Common.{◌+◌, ◌-◌, ◌≤◌}
use Rattle.ca_flat.specs.Chip.{count_of}
use Rattle.ca_view.specs.Linked.{place_in}
use Rattle.ca_sim.specs.Simulator.{KeepsSeen}
use Rattle.ca_confined.specs.code.Settle.{IsSettledTo}
use Rattle.ca_confined.proofs.settle.settle.Given as goal

abbrev pub invariant-loop-place : goal.invariant-loop-place
invariant-loop-place l = record {
  settled : IsSettledTo l.chip.core (place_in l.chip.ranks) l.aim l.scope l.from l.fn.network l.network;
  kept : KeepsSeen l.fn.sim l.sim;
  within : l.from ≤ count_of l.chip.core + 1;
}

abbrev pub decreases-loop-place : goal.decreases-loop-place
decreases-loop-place l = count_of l.chip.core + 1 - l.from
