use Rattle.std.proofs.Common.{◌≡◌, length}
use Rattle.std.specs.List.{All}
use Rattle.ca_generate_tests.proofs.credits.drawn_pairs.Given as goal

abbrev pub invariant-loop-k : goal.invariant-loop-k
invariant-loop-k l = All (λ pair. length pair ≡ l.bits) l.pairs × (length l.pairs ≡ l.k)
