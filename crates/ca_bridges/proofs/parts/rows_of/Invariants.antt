use Rattle.std.proofs.Common.{◌≡◌}
use Rattle.ca_view.specs.Core.{core_of}
use Rattle.ca_bridges.specs.code.Parts.{AreEach}
use Rattle.ca_bridges.proofs.parts.rows_of.Given as goal

abbrev pub invariant-loop-k : goal.invariant-loop-k
invariant-loop-k l = AreEach (λ cluster of. core_of of.chip ≡ core_of cluster.chip) l.clusters l.k l.rows.items
