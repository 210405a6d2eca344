use Rattle.ca_view.specs.View.{IsViewOf}
use Rattle.ca_bridges.specs.code.Parts.{AreEach}
use Rattle.ca_bridges.proofs.parts.views_of.Given as goal

abbrev pub invariant-loop-k : goal.invariant-loop-k
invariant-loop-k l = AreEach (λ cluster view. IsViewOf cluster.chip view) l.clusters l.k l.views.items
