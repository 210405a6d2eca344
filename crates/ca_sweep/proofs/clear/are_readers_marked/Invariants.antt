use Rattle.std.proofs.Common.{ℕ, ◌≡◌, ◌<◌, get_or, true}
use Rattle.ca_view.specs.Readers.{row_at}
use Rattle.ca_sweep.specs.Tables.{is_marked}
use Rattle.ca_sweep.proofs.clear.are_readers_marked.Given as goal

abbrev pub invariant-loop-k : goal.invariant-loop-k
invariant-loop-k l = (k : ℕ) → k < l.k → is_marked l.marks (get_or (row_at l.chip.readers l.net) k 0) ≡ true
