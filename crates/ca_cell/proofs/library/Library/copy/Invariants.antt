use Rattle.std.proofs.Common.{◌≡◌, take}
use Rattle.ca_cell.proofs.library.Library.copy.Given as goal

abbrev pub invariant-loop-place : goal.invariant-loop-place
invariant-loop-place l = l.library ≡ take l.place l.self
