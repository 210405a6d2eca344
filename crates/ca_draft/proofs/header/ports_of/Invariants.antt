use Rattle.std.proofs.Common.{◌≡◌, map}
use Rattle.std.specs.Prelude.{take}
use Rattle.ca_wiring.specs.Wiring.{header_bits}
use Rattle.ca_draft.specs.code.OnWires.{header_of}
use Rattle.ca_draft.proofs.header.ports_of.Given as goal

abbrev pub invariant-loop-p : goal.invariant-loop-p
invariant-loop-p l = map header_of l.ports.items ≡ header_bits l.buses (take l.p l.places)
