use Rattle.std.proofs.Common.{◌≡◌, length}
use Rattle.ca_spice.specs.code.Names.{texts}
use Rattle.ca_spice.specs.Mos.{value_of}
use Rattle.ca_spice.proofs.mos.value_of.Given as goal

abbrev pub invariant-params : goal.invariant-params
invariant-params l = value_of l.key (texts l.rest) ≡ value_of l.key (texts l.params)

abbrev pub decreases-params : goal.decreases-params
decreases-params l = length l.rest
