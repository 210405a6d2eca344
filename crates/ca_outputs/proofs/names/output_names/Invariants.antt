use Rattle.std.proofs.Common.{◌≡◌, ◌++◌}
use Rattle.std.specs.Prelude.{take}
use Rattle.std.specs.List.{flat_map}
use Rattle.ca_outputs.specs.Outputs.{observed_ports, part_outputs, names_of}
use Rattle.ca_outputs.proofs.names.output_names.Given as goal

abbrev pub invariant-loop-u : goal.invariant-loop-u
invariant-loop-u l = l.names ≡ names_of (observed_ports l.chip) ++ names_of (flat_map part_outputs (take l.u l.chip.parts))
