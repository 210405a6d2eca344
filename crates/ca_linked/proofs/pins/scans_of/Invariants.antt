use Rattle.std.proofs.Common.{◌≡◌, ◌++◌}
use Rattle.std.specs.Prelude.{drop}
use Rattle.ca_linked.specs.Instances.{scans_of, scans_from}
use Rattle.ca_linked.proofs.pins.scans_of.Given as goal

abbrev pub invariant-loop-u : goal.invariant-loop-u
invariant-loop-u l = scans_of l.draft ≡ l.list ++ scans_from l.u (drop l.u l.draft.parts)
