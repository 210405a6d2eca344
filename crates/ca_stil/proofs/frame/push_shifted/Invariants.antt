use Rattle.std.proofs.Common.{◌≡◌, ◌++◌, length}
use Rattle.ca_stil.specs.Frame.{shifted_text}
use Rattle.ca_stil.proofs.frame.push_shifted.Given as goal

abbrev pub invariant-chains : goal.invariant-chains
invariant-chains l = l.text ++ shifted_text l.end l.rest ≡ l.fn.text ++ shifted_text l.end l.chains

abbrev pub decreases-chains : goal.decreases-chains
decreases-chains l = length l.rest
