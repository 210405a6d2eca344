use Rattle.std.proofs.Common.{◌<◌, ◌≤◌, length, ℕ, get_or}
use Rattle.ca_cell.specs.Library.{Named}
use Rattle.ca_cell.proofs.library.Library.longest.Given as goal

abbrev pub invariant-loop-place : goal.invariant-loop-place
invariant-loop-place l = (k : ℕ) (d : Named) → k < l.place → length (get_or l.self k d).name ≤ l.most
