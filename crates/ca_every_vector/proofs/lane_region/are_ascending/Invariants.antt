use Rattle.std.proofs.Common.{ℕ, ◌<◌, ◌≤◌}
use Rattle.std.specs.Prelude.{slice_index_or}
use Rattle.ca_view.specs.Linked.{place_in}
use Rattle.ca_every_vector.proofs.lane_region.are_ascending.Given as goal

abbrev pub invariant-loop-place : goal.invariant-loop-place
invariant-loop-place l = record {
  high : (i : ℕ) → i < l.place → place_in l.chip.ranks (slice_index_or l.parts i 0) ≤ l.highest;
  sorted : (i j : ℕ) → i < j → j < l.place → place_in l.chip.ranks (slice_index_or l.parts i 0) ≤ place_in l.chip.ranks (slice_index_or l.parts j 0);
}
