use Rattle.std.proofs.Common.{ℕ, ◌≡◌, ◌<◌, length, get_or, None}
use Rattle.ca_sweep.proofs.segments.empty.Given as goal

abbrev pub invariant-loop-place : goal.invariant-loop-place
invariant-loop-place l = record {
  count : length l.slots.items ≡ length l.fn.slots.items;
  none : (k : ℕ) → k < l.place → get_or l.slots.items k None ≡ None;
}
