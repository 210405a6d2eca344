use Rattle.ca_sweep.specs.Seen.{IsForChip}
use Rattle.ca_bridges.specs.code.Parts.{AreEach}
use Rattle.ca_bridges.proofs.parts.finders_of.Given as goal

abbrev pub invariant-loop-k : goal.invariant-loop-k
invariant-loop-k l = AreEach (λ view finder. IsForChip view.core view.ranks finder) l.views l.k l.finders.items
