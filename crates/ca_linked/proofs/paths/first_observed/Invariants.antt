use Rattle.std.proofs.Common.{ℕ, ◌<◌, ◌≡◌, false}
use Rattle.ca_linked.specs.Paths.{is_observed}
use Rattle.ca_linked.proofs.paths.first_observed.Given as goal

abbrev pub invariant-loop-k : goal.invariant-loop-k
invariant-loop-k l = (before : ℕ) → before < l.k → is_observed l.draft before ≡ false
