use Rattle.std.proofs.Common.{ℕ, ◌≡◌, ◌<◌, length}
use Rattle.std.specs.Prelude.{slice_index}
use Rattle.ca_view.specs.Linked.{IsPlaced, place_in}
use Rattle.ca_view.specs.Places.{cell_number}
use Rattle.ca_sweep.proofs.rows.numbers_of.Given as goal

abbrev pub invariant-loop-u : goal.invariant-loop-u
invariant-loop-u l = record {
  count : length l.numbers.items ≡ l.u;
  each : (k : ℕ) → k < l.u → IsPlaced l.chip.core (place_in l.chip.ranks) k → slice_index l.numbers.items k ≡ cell_number l.chip.chip k;
}
