use Rattle.std.proofs.Common.{◌≡◌}
use Rattle.std.specs.List.{AllWithin}
use Rattle.ca_targets.specs.declared.target.Cluster.{Cluster}
use Rattle.ca_targets.proofs.clusters.number_of.Given as goal

abbrev pub invariant-loop-k : goal.invariant-loop-k
invariant-loop-k l = AllWithin (λ (one : Cluster). one.members ≡ l.members → ⊥) l.clusters 0 l.k
