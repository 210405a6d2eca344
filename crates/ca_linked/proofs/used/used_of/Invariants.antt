use Rattle.std.proofs.Common.{◌≡◌}
use Rattle.std.specs.Prelude.{drop}
use Rattle.ca_linked.specs.Cells.{used_cells, used_from}
use Rattle.ca_linked.proofs.used.used_of.Given as goal

abbrev pub invariant-loop-u : goal.invariant-loop-u
invariant-loop-u l = used_cells l.draft ≡ used_from l.used.items (drop l.u l.draft.parts)
