use Rattle.std.proofs.Common.{◌≡◌, ◌++◌, true}
use Rattle.std.specs.Prelude.{take}
use Rattle.std.specs.List.{flat_map}
use Rattle.ca_linked.specs.declared.parts.Part.{Part}
use Rattle.ca_linked.specs.Linked.{port_nets, q_nets}
use Rattle.ca_linked.proofs.ends.inputs_of.Given as goal

abbrev pub invariant-loop-u : goal.invariant-loop-u
invariant-loop-u l = l.nets ≡ port_nets l.draft true ++ flat_map (λ (part : Part). q_nets part.body) (take l.u l.draft.parts)
