use Rattle.std.proofs.Common.{◌≡◌, replicate}
use Rattle.std.specs.Prelude.{None}
use Rattle.ca_rows.proofs.cells.no_tables.Given as goal

abbrev pub invariant-loop : goal.invariant-loop
invariant-loop l = l.tables.items ≡ replicate l.counter None
