use Rattle.std.proofs.Common.{◌≡◌, ◌++◌, map}
use Rattle.ca_stil.specs.Chip.{part}
use Rattle.ca_stil.specs.Words.{digit_of}
use Rattle.ca_stil.proofs.statement.push_digits.Given as goal

abbrev pub invariant-loop-k : goal.invariant-loop-k
invariant-loop-k g l = l.text ≡ l.fn.text ++ map digit_of (part l.from l.k (g.P.PatternBits.bits l.pair))
