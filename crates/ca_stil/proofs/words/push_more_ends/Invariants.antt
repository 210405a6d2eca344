use Rattle.std.proofs.Common.{◌≡◌, ◌++◌, length}
use Rattle.ca_stil.specs.Chip.{ends_of}
use Rattle.ca_stil.specs.Words.{joined_more}
use Rattle.ca_stil.proofs.words.push_more_ends.Given as goal

abbrev pub invariant-chains : goal.invariant-chains
invariant-chains l =
    l.text ++ joined_more (ends_of l.end l.rest) ≡ l.fn.text ++ joined_more (ends_of l.end l.chains)

abbrev pub decreases-chains : goal.decreases-chains
decreases-chains l = length l.rest
