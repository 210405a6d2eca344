-- What only the proofs of the code cite.
use Rattle.ca_stil_read.specs.declared.pair.TextPair.{TextPair}
use Rattle.ca_stil_read.specs.Plan.{Flat}

-- a pair as its text has it
abbrev pub pair_seen : TextPair → Flat
pair_seen pair = (pair.bits, pair.levels)
