use Rattle.std.proofs.Common.{◌≡◌, length}
use Rattle.ca_bridges.proofs.generation.zeros.Given as goal

abbrev pub invariant-loop-bit : goal.invariant-loop-bit
invariant-loop-bit l = length l.pair ≡ l.bit
