use Rattle.std.proofs.Common.{◌≡◌, map, take}
use Rattle.ca_stil_pairs.specs.code.Places.{chip_levels}
use Rattle.ca_stil_pairs.proofs.file.expected_of.Given as goal

abbrev pub invariant-loop-k : goal.invariant-loop-k
invariant-loop-k l = l.list ≡ map (chip_levels l.chip l.sites) (take l.k l.pairs)
