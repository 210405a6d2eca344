use Rattle.std.proofs.Common.{◌≡◌, ◌<◌, ◌^◌, ◌++◌, length}
use Rattle.ca_names.specs.Names.{repeats, has_double}
use Rattle.ca_spice.specs.code.Names.{texts}
use Rattle.ca_spice.proofs.names.set_of.Given as goal

abbrev pub invariant-words : goal.invariant-words
invariant-words l = (l.names ++ texts l.rest ≡ texts l.words) × (repeats l.names (texts l.rest) ≡ has_double (texts l.words)) × (length l.names < 2 ^ 32)

abbrev pub decreases-words : goal.decreases-words
decreases-words l = length l.rest
