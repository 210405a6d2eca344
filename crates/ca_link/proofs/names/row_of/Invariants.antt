use Rattle.std.proofs.Common.{◌≡◌}
use Rattle.std.specs.Prelude.{drop}
use Rattle.ca_wiring.specs.Wiring as wiring
use Rattle.ca_link.proofs.names.row_of.Given as goal

abbrev pub invariant-loop-k : goal.invariant-loop-k
invariant-loop-k l = wiring.row_of l.scan l.cell ≡ wiring.row_of (drop l.k l.scan) l.cell
