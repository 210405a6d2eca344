use Rattle.std.proofs.Common.{◌≡◌, map, take}
use Rattle.ca_stil_pairs.specs.code.Places.{chip_bits}
use Rattle.ca_stil_pairs.proofs.file.pairs_of.Given as goal

abbrev pub invariant-loop-k : goal.invariant-loop-k
invariant-loop-k l = l.list ≡ map (chip_bits l.chip l.sites) (take l.k l.pairs)
