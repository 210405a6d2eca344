use Rattle.std.proofs.Common.{ℕ, ◌≡◌, ◌<◌, length, true}
use Rattle.ca_view.specs.Linked.{IsPlaced, place_in}
use Rattle.ca_sweep.specs.Tables.{is_marked}
use Rattle.ca_sweep.proofs.clear.mark_placed.Given as goal

abbrev pub invariant-loop-u : goal.invariant-loop-u
invariant-loop-u l = record {
  room : length l.marks.items ≡ length l.fn.marks.items;
  each : (u : ℕ) → u < l.u → is_marked l.marks.items u ≡ true → IsPlaced l.chip.core (place_in l.chip.ranks) u;
}
