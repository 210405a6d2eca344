use Rattle.std.proofs.Common.{◌≡◌, ◌<◌, ℕ, [], slice_index}
use Rattle.std.specs.List.{Contains}
use Rattle.ca_linked.specs.declared.order.Mark.TheVariants.{New}
use Rattle.ca_linked.specs.code.Walk.{IsWalk, mark_of}
use Rattle.ca_linked.proofs.order.Walk.visit.Given as goal

abbrev pub invariant-loop-i : goal.invariant-loop-i
invariant-loop-i l = record {
  walk : IsWalk l.feeders (Contains l.roots) l.self;
  between : l.self.trail ≡ [];
  reached : (k : ℕ) → k < l.i → mark_of l.self.marks (slice_index l.roots k) ≡ New → ⊥;
}
