use Rattle.std.proofs.Common.{ℕ, ◌≡◌, ◌+◌, ◌<◌, length}
use Rattle.ca_flat.specs.Chip.{inputs_at, outputs_at}
use Rattle.ca_view.specs.Linked.{IsPlaced, place_in}
use Rattle.ca_sweep.specs.code.Pinned.{ArePinsMarked}
use Rattle.ca_sweep.proofs.pinned.pinned_nets.Given as goal

abbrev pub invariant-loop-u : goal.invariant-loop-u
invariant-loop-u l = record {
  marked : (u : ℕ) → u < l.u → IsPlaced l.chip.core (place_in l.chip.ranks) u
      → ArePinsMarked l.chip.core u (inputs_at l.chip.core u + outputs_at l.chip.core u) l.marks.items;
  room : length l.marks.items ≡ length l.chip.core.nets;
}
