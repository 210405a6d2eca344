use Rattle.std.proofs.Common.{◌+◌, ◌<◌, ◌≤◌, ℕ, length}
use Rattle.ca_levels.specs.code.Come.{Raises, LeadsNoMore}
use Rattle.ca_levels.proofs.close.sweep_back.Given as goal

abbrev pub invariant-loop-done : goal.invariant-loop-done
invariant-loop-done l = record {
  raises : Raises l.devices l.links l.blocked l.fn.reached l.reached l.rose;
  settled : (k : ℕ) → k < length l.devices → length l.devices ≤ k + l.done → LeadsNoMore l.devices l.links l.blocked l.fn.reached l.rose k;
}
