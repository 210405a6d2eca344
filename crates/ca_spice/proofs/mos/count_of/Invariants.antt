use Rattle.std.proofs.Common.{◌≡◌, length, ◌+◌, ◌≤◌}
use Rattle.ca_spice.specs.code.Names.{texts}
use Rattle.ca_spice.specs.Mos.{count_of}
use Rattle.ca_spice.proofs.mos.count_of.Given as goal

abbrev pub invariant-params : goal.invariant-params
invariant-params l = (l.count + count_of l.key (texts l.rest) ≡ count_of l.key (texts l.params)) × (l.count + length l.rest ≤ length l.params)

abbrev pub decreases-params : goal.decreases-params
decreases-params l = length l.rest
