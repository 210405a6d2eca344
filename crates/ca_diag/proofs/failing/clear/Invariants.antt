use Rattle.std.proofs.Common.{◌≡◌, ◌<◌, ℕ, length, false}
use Rattle.std.specs.Prelude.{slice_index_or}
use Rattle.ca_diag.proofs.failing.clear.Given as goal

abbrev pub invariant-loop-k : goal.invariant-loop-k
invariant-loop-k l = record {
  room : length l.marks.items ≡ length l.fn.marks.items;
  none : (place : ℕ) → place < l.k → slice_index_or l.marks.items place false ≡ false;
}
