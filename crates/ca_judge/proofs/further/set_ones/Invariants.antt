use Rattle.std.proofs.Common.{◌≡◌, ◌≤◌, vec_capacity}
use Rattle.ca_sim.specs.Simulator.{KeepsSeen}
use Rattle.ca_judge.specs.Attempt.{IsOnWay}
use Rattle.ca_judge.proofs.further.set_ones.Given as goal

abbrev pub invariant-loop : goal.invariant-loop
invariant-loop l = record {
  way : IsOnWay l.aimed.view.now.core l.aimed.defect l.aimed.most l.confined l.numbers.items;
  places : l.confined.places ≡ l.fn.confined.places;
  kept : KeepsSeen l.fn.sim l.sim;
  room : vec_capacity l.fn.numbers ≤ vec_capacity l.numbers;
}
