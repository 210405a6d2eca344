use Rattle.std.proofs.Common.{◌+◌, ◌<◌, ◌≤◌, ℕ, length}
use Rattle.ca_levels.specs.code.Come.{Raises, LeadsNoMore}
use Rattle.ca_levels.proofs.close.sweep_pair_back.Given as goal

abbrev pub invariant-loop-done : goal.invariant-loop-done
invariant-loop-done l = record {
  zeros : Raises l.devices l.links l.blocked l.fn.zeros l.zeros l.zeros_rose;
  ones : Raises l.devices l.links l.blocked l.fn.ones l.ones l.ones_rose;
  zeros_settled : (k : ℕ) → k < length l.devices → length l.devices ≤ k + l.done → LeadsNoMore l.devices l.links l.blocked l.fn.zeros l.zeros_rose k;
  ones_settled : (k : ℕ) → k < length l.devices → length l.devices ≤ k + l.done → LeadsNoMore l.devices l.links l.blocked l.fn.ones l.ones_rose k;
}
