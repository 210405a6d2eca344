use Rattle.std.proofs.Common.{◌≡◌}
use Rattle.std.specs.Prelude.{take}
use Rattle.std.specs.List.{flat_map}
use Rattle.ca_outputs.specs.Outputs.{port_outputs, names_of}
use Rattle.ca_outputs.proofs.names.port_bits.Given as goal

abbrev pub invariant-loop-p : goal.invariant-loop-p
invariant-loop-p l = l.names ≡ names_of (flat_map (port_outputs l.chip) (take l.p l.chip.ports))
