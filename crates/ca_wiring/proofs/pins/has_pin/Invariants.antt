use Rattle.std.proofs.Common.{◌≡◌}
use Rattle.std.specs.Prelude.{drop}
use Rattle.ca_wiring.specs.code.Pins.{has_pin}
use Rattle.ca_wiring.proofs.pins.has_pin.Given as goal

abbrev pub invariant-loop-k : goal.invariant-loop-k
invariant-loop-k l = has_pin l.pins l.name ≡ has_pin (drop l.k l.pins) l.name
