use Rattle.std.proofs.Common.{◌≡◌, ◌++◌, length, map}
use Rattle.std.specs.List.{flat_map}
use Rattle.ca_spice.specs.Writing.{spaced, pin_word}
use Rattle.ca_spice.proofs.writing.push_roles.Given as goal

abbrev pub invariant-pins : goal.invariant-pins
invariant-pins l = l.text ++ flat_map spaced (map pin_word l.rest) ≡ l.initial.text ++ flat_map spaced (map pin_word l.pins)

abbrev pub decreases-pins : goal.decreases-pins
decreases-pins l = length l.rest
