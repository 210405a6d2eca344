use Rattle.std.proofs.Common.{◌≡◌}
use Rattle.std.specs.Prelude.{take}
use Rattle.std.specs.List.{flat_map}
use Rattle.ca_linked.specs.declared.parts.Part.{Part}
use Rattle.ca_draft.specs.code.OnWires.{pins_of}
use Rattle.ca_draft.proofs.touched.wires_of_pins.Given as goal

abbrev pub invariant-loop-u : goal.invariant-loop-u
invariant-loop-u l = l.wires.items ≡ flat_map (λ (part : Part). pins_of part.body) (take l.u l.parts)
