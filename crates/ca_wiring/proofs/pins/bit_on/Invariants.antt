use Rattle.std.proofs.Common.{◌≡◌}
use Rattle.std.specs.Prelude.{drop}
use Rattle.ca_wiring.specs.Wiring.{bit_on}
use Rattle.ca_wiring.proofs.pins.bit_on.Given as goal

abbrev pub invariant-loop-k : goal.invariant-loop-k
invariant-loop-k l = bit_on l.uses l.pin ≡ bit_on (drop l.k l.uses) l.pin
