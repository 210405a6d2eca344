use Rattle.std.proofs.Common.{◌≡◌, length, ◌++◌, map}
use Rattle.ca_spice.specs.code.Names.{texts}
use Rattle.ca_spice.specs.OpenCell.{pin_of}
use Rattle.ca_spice.proofs.pin.pins_of.Given as goal

abbrev pub invariant-names : goal.invariant-names
invariant-names l = l.pins.items ++ map pin_of (texts l.rest) ≡ map pin_of (texts l.names)

abbrev pub decreases-names : goal.decreases-names
decreases-names l = length l.rest
