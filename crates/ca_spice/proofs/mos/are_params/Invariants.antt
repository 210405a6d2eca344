use Rattle.std.proofs.Common.{◌≡◌, length}
use Rattle.ca_spice.specs.code.Names.{texts}
use Rattle.ca_spice.specs.Mos.{are_params}
use Rattle.ca_spice.proofs.mos.are_params.Given as goal

abbrev pub invariant-params : goal.invariant-params
invariant-params l = are_params (texts l.rest) ≡ are_params (texts l.params)

abbrev pub decreases-params : goal.decreases-params
decreases-params l = length l.rest
