use Rattle.std.proofs.Common.{◌≡◌, ◌++◌, map, drop}
use Rattle.ca_stil.specs.Text.{pairs_text}
use Rattle.ca_stil.proofs.write.push_pairs.Given as goal

abbrev pub invariant-loop-number : goal.invariant-loop-number
invariant-loop-number g l =
    l.text ++ pairs_text l.chip l.most l.number (drop l.number (map g.P.PatternBits.bits l.pairs))
    (drop l.number (map g.E.ExpectedValues.values l.expected))
    ≡ l.fn.text ++ pairs_text l.chip l.most 0 (map g.P.PatternBits.bits l.pairs) (map g.E.ExpectedValues.values l.expected)
