use Rattle.std.proofs.Common.{◌≡◌, ◌++◌, ◌-◌, map}
use Rattle.ca_verilog.specs.IsNetlist.{range_width}
use Rattle.ca_wiring.specs.Wiring.{header_bits_from}
use Rattle.ca_draft.specs.code.OnWires.{header_of}
use Rattle.ca_draft.proofs.header.add_port.Given as goal

abbrev pub invariant-loop-k : goal.invariant-loop-k
invariant-loop-k l = map header_of l.fn.ports.items ++ header_bits_from l.bus l.first 0 (range_width l.bus.range)
    ≡ map header_of l.ports.items ++ header_bits_from l.bus l.first l.k (range_width l.bus.range - l.k)
