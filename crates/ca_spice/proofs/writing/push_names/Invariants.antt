use Rattle.std.proofs.Common.{◌≡◌, ◌++◌, length}
use Rattle.std.specs.List.{flat_map}
use Rattle.ca_spice.specs.Writing.{spaced, pin_names}
use Rattle.ca_spice.proofs.writing.push_names.Given as goal

abbrev pub invariant-pins : goal.invariant-pins
invariant-pins l = l.text ++ flat_map spaced (pin_names l.rest) ≡ l.fn.text ++ flat_map spaced (pin_names l.pins)

abbrev pub decreases-pins : goal.decreases-pins
decreases-pins l = length l.rest
