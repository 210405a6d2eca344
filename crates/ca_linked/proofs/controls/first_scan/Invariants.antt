use Rattle.std.proofs.Common.{◌≡◌}
use Rattle.std.specs.Prelude.{drop}
use Rattle.ca_linked.specs.Controls.{first_scan}
use Rattle.ca_linked.proofs.controls.first_scan.Given as goal

abbrev pub invariant-loop-u : goal.invariant-loop-u
invariant-loop-u l = first_scan l.draft.parts ≡ first_scan (drop l.u l.draft.parts)
