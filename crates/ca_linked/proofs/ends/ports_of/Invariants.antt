use Rattle.std.proofs.Common.{◌≡◌}
use Rattle.std.specs.Prelude.{take}
use Rattle.std.specs.List.{flat_map}
use Rattle.ca_linked.specs.code.Ends.{end_nets}
use Rattle.ca_linked.proofs.ends.ports_of.Given as goal

abbrev pub invariant-loop-p : goal.invariant-loop-p
invariant-loop-p l = l.nets ≡ flat_map (end_nets l.draft l.is_input) (take l.p l.draft.ports)
