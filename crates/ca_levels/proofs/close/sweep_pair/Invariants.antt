use Rattle.std.proofs.Common.{◌<◌, ℕ}
use Rattle.ca_levels.specs.code.Come.{Raises, LeadsNoMore}
use Rattle.ca_levels.proofs.close.sweep_pair.Given as goal

abbrev pub invariant-loop-i : goal.invariant-loop-i
invariant-loop-i l = record {
  zeros : Raises l.devices l.links l.blocked l.fn.zeros l.zeros l.zeros_rose;
  ones : Raises l.devices l.links l.blocked l.fn.ones l.ones l.ones_rose;
  zeros_settled : (k : ℕ) → k < l.i → LeadsNoMore l.devices l.links l.blocked l.fn.zeros l.zeros_rose k;
  ones_settled : (k : ℕ) → k < l.i → LeadsNoMore l.devices l.links l.blocked l.fn.ones l.ones_rose k;
}
