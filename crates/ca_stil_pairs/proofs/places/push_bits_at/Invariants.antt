use Rattle.std.proofs.Common.{◌≡◌, ◌++◌, take, false}
use Rattle.ca_stil_pairs.specs.code.Places.{sited}
use Rattle.ca_stil_pairs.proofs.places.push_bits_at.Given as goal

abbrev pub invariant-loop-k : goal.invariant-loop-k
invariant-loop-k l = l.pair ≡ l.fn.pair ++ sited false l.from (take l.k l.sites) l.bits
