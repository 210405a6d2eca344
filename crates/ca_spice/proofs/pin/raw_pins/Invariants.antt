use Rattle.std.proofs.Common.{◌≡◌, length, []}
use Rattle.ca_spice.specs.OpenCell.{pins_after}
use Rattle.ca_spice.proofs.pin.raw_pins.Given as goal

abbrev pub invariant-pins : goal.invariant-pins
invariant-pins l = pins_after l.raw l.rest ≡ pins_after [] l.pins

abbrev pub decreases-pins : goal.decreases-pins
decreases-pins l = length l.rest
