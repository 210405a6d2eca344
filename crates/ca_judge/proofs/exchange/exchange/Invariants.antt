use Rattle.std.proofs.Common.{◌≤◌, vec_capacity}
use Rattle.ca_judge.specs.code.Attempt.{KeepsAttempt}
use Rattle.ca_judge.proofs.exchange.exchange.Given as goal

abbrev pub invariant-loop-place : goal.invariant-loop-place
invariant-loop-place g l = record {
  kept : KeepsAttempt l.fn.confined l.confined l.fn.sim l.sim;
  room : vec_capacity l.fn.numbers ≤ vec_capacity l.numbers;
}
