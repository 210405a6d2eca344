use Rattle.std.proofs.Common.{◌≡◌}
use Rattle.std.specs.Prelude.{take}
use Rattle.std.specs.List.{flat_map}
use Rattle.ca_fault_place.specs.code.Touched.{instance_wires}
use Rattle.ca_fault_place.proofs.touched.wires_of_uses.Given as goal

abbrev pub invariant-loop-u : goal.invariant-loop-u
invariant-loop-u l = l.wires.items ≡ flat_map (instance_wires l.bits) (take l.u l.instances)
