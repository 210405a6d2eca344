use Rattle.std.proofs.Common.{◌≡◌, ◌++◌, length}
use Rattle.ca_stil.specs.Pair.{steady_text}
use Rattle.ca_stil.proofs.shift.push_steady.Given as goal

abbrev pub invariant-chains : goal.invariant-chains
invariant-chains l =
    l.text ++ steady_text l.letter l.end l.most l.rest ≡ l.fn.text ++ steady_text l.letter l.end l.most l.chains

abbrev pub decreases-chains : goal.decreases-chains
decreases-chains l = length l.rest
