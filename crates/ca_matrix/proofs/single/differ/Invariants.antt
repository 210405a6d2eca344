use Rattle.std.proofs.Common.{ℕ, ◌<◌}
use Rattle.ca_matrix.specs.code.Single.{DifferAt}
use Rattle.ca_matrix.proofs.single.differ.Given as goal

abbrev pub invariant-loop-output : goal.invariant-loop-output
invariant-loop-output l = (k : ℕ) → k < l.output → DifferAt l.good l.faulty k → ⊥
