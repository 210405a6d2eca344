use Rattle.std.specs.Prelude.{◌≡◌, take}
use Rattle.ca_view.proofs.readers.row_of.Given as goal

abbrev pub invariant-loop-k : goal.invariant-loop-k
invariant-loop-k l = l.row ≡ take l.k l.readers
