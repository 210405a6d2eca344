use Rattle.std.proofs.Common.{◌≡◌, take}
use Rattle.ca_pin_sets.proofs.resolving.copy_pins.Given as goal

abbrev pub invariant-loop-pin : goal.invariant-loop-pin
invariant-loop-pin l = l.pins ≡ take l.pin-index l.old
