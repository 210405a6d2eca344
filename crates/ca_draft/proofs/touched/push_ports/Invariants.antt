use Rattle.std.proofs.Common.{◌≡◌, ◌++◌, map}
use Rattle.std.specs.Prelude.{take}
use Rattle.ca_linked.specs.declared.parts.PortBit.{PortBit}
use Rattle.ca_draft.proofs.touched.push_ports.Given as goal

abbrev pub invariant-loop-p : goal.invariant-loop-p
invariant-loop-p l = l.wires.items ≡ l.fn.wires.items ++ map (λ (port : PortBit). port.net) (take l.p l.ports)
