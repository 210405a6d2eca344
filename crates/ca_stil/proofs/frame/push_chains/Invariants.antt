use Rattle.std.proofs.Common.{◌≡◌, ◌++◌, ◌+◌, length}
use Rattle.ca_stil.specs.Frame.{chains_text}
use Rattle.ca_stil.proofs.frame.push_chains.Given as goal

abbrev pub invariant-chains : goal.invariant-chains
invariant-chains l = (l.number + length l.rest ≡ length l.chains)
    × (l.text ++ chains_text l.number l.rest ≡ l.fn.text ++ chains_text 0 l.chains)

abbrev pub decreases-chains : goal.decreases-chains
decreases-chains l = length l.rest
