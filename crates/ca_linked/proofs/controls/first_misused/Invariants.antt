use Rattle.std.proofs.Common.{◌≡◌}
use Rattle.std.specs.Prelude.{drop}
use Rattle.ca_linked.specs.Controls.{first_scan, misused_of, misused_from}
use Rattle.ca_linked.proofs.controls.first_misused.Given as goal

abbrev pub invariant-loop-u : goal.invariant-loop-u
invariant-loop-u l = misused_of l.draft ≡ misused_from l.draft (first_scan l.draft.parts) l.u (drop l.u l.draft.parts)
