use Rattle.std.proofs.Common.{◌<◌, ℕ}
use Rattle.ca_levels.specs.code.Come.{Raises, LeadsNoMore}
use Rattle.ca_levels.proofs.close.sweep.Given as goal

abbrev pub invariant-loop-i : goal.invariant-loop-i
invariant-loop-i l = record {
  raises : Raises l.devices l.links l.blocked l.fn.reached l.reached l.rose;
  settled : (k : ℕ) → k < l.i → LeadsNoMore l.devices l.links l.blocked l.fn.reached l.rose k;
}
