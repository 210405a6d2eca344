use Rattle.std.proofs.Common.{◌≡◌, length}
use Rattle.std.specs.Prelude.{max}
use Rattle.ca_stil.specs.Chip.{longest}
use Rattle.ca_stil.proofs.shift.longest.Given as goal

abbrev pub invariant-chains : goal.invariant-chains
invariant-chains l = max l.most (longest l.rest) ≡ longest l.chains

abbrev pub decreases-chains : goal.decreases-chains
decreases-chains l = length l.rest
