use Rattle.std.proofs.Common.{◌≡◌, ◌++◌}
use Rattle.std.specs.Prelude.{drop}
use Rattle.ca_linked.specs.Instances.{gates_of, gates_from}
use Rattle.ca_linked.proofs.pins.gates_of.Given as goal

abbrev pub invariant-loop-u : goal.invariant-loop-u
invariant-loop-u l = gates_of l.draft ≡ l.list ++ gates_from l.u (drop l.u l.draft.parts)
