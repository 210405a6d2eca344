use Rattle.std.proofs.Common.{◌≡◌, ℕ, ◌<◌, eqb, false}
use Rattle.std.specs.Prelude.{slice_index_or}
use Rattle.ca_cluster.proofs.short.place_in.Given as goal

abbrev pub invariant-loop-k : goal.invariant-loop-k
invariant-loop-k l = (j : ℕ) → j < l.k → eqb l.net (slice_index_or l.nets j 0) ≡ false
