use Rattle.std.proofs.Common.{◌≡◌, ◌++◌, map}
use Rattle.ca_stil.specs.Chip.{part}
use Rattle.ca_stil.specs.Words.{level_of}
use Rattle.ca_stil.proofs.statement.push_letters_of.Given as goal

abbrev pub invariant-loop-k : goal.invariant-loop-k
invariant-loop-k g l = l.text ≡ l.fn.text ++ map level_of (part 0 l.k (g.E.ExpectedValues.values l.expected))
