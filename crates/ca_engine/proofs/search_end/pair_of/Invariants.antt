use Rattle.std.proofs.Common.{◌≡◌, take, map}
use Rattle.ca_code.specs.Filled.{filled_bit}
use Rattle.ca_engine.proofs.search_end.pair_of.Given as goal

abbrev pub invariant-loop-bit : goal.invariant-loop-bit
invariant-loop-bit g l = l.pair ≡ map filled_bit (take l.bit l.judge.seen.pair)
