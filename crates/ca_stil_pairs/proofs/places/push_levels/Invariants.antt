use Rattle.std.proofs.Common.{◌≡◌, ◌++◌}
use Rattle.ca_stil.specs.Chip.{part}
use Rattle.ca_stil_pairs.proofs.places.push_levels.Given as goal

abbrev pub invariant-loop-k : goal.invariant-loop-k
invariant-loop-k l = l.list ≡ l.fn.list ++ part l.from l.k l.levels
