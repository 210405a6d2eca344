use Rattle.std.proofs.Common.{◌≡◌, ◌++◌, length}
use Rattle.ca_stil.specs.Words.{joined_more}
use Rattle.ca_stil.proofs.words.push_more_names.Given as goal

abbrev pub invariant-names : goal.invariant-names
invariant-names l = l.text ++ joined_more l.rest ≡ l.fn.text ++ joined_more l.names

abbrev pub decreases-names : goal.decreases-names
decreases-names l = length l.rest
