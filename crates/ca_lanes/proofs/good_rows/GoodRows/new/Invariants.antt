use Rattle.std.proofs.Common.{◌≡◌, ◌+◌, ◌<◌, ◌≤◌, ℕ, length, get_or, false, true}
use Rattle.std.specs.Prelude.{vec_capacity}
use Rattle.ca_lanes.specs.GoodRows.{good_at}
use Rattle.ca_lanes.proofs.good_rows.GoodRows.new.Given as goal

abbrev pub invariant-loop-first : goal.invariant-loop-first
invariant-loop-first l = record {
  count : length l.like_next.items ≡ l.first;
  room : l.count ≤ vec_capacity l.like_next;
  like : (first last output : ℕ) → first + 1 < l.count → last < l.count → output < l.fn.outputs → get_or l.like_next.items first false ≡ true
      → good_at l.values.items l.count l.fn.outputs first last output ≡ good_at l.values.items l.count l.fn.outputs (first + 1) last output;
}
