use Rattle.std.proofs.Common.{◌≡◌, ◌++◌, map}
use Rattle.std.specs.Prelude.{take}
use Rattle.ca_wiring.specs.Wiring.{HeaderBit, header_bits}
use Rattle.ca_fault_place.proofs.touched.push_ports.Given as goal

abbrev pub invariant-loop-p : goal.invariant-loop-p
invariant-loop-p l = l.wires.items
    ≡ l.fn.wires.items ++ map (λ (bit : HeaderBit). bit.wire) (header_bits l.buses (take l.p l.places))
