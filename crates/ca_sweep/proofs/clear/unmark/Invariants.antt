use Rattle.std.proofs.Common.{ℕ, ◌≡◌, ◌<◌, length, false}
use Rattle.ca_sweep.specs.Tables.{is_marked}
use Rattle.ca_sweep.proofs.clear.unmark.Given as goal

abbrev pub invariant-loop-u : goal.invariant-loop-u
invariant-loop-u l = record {
  count : length l.marks.items ≡ length l.fn.marks.items;
  none : (u : ℕ) → u < l.u → is_marked l.marks.items u ≡ false;
}
