use Rattle.std.proofs.Common.{◌<◌, arith, refl, map, ◌++◌}
use Rattle.ca_verilog.specs.IsNetlist.{range_width}
use Rattle.ca_wiring.specs.Wiring.{header_bits_from}
use Rattle.ca_draft.specs.code.OnWires.{header_of}
use Rattle.ca_draft.proofs.HeaderLemmas.{port_more}
use Rattle.ca_draft.proofs.header.add_port.Goals as goal

pub loop-k-preserved : goal.loop-k-preserved
loop-k-preserved c =
    let test = c.loop-k-test.true in
    let width = c.range_width-k-end.ensures in
    let lt : c.loop-k.k < range_width c.args.bus.now.range = omega (arith, test, width) in
    port_more c.args.bus.now c.args.first c.loop-k.k (range_width c.args.bus.now.range) _ c.loop-k.ports.items c.push.new.self.items
    (map header_of c.args.ports.now.items ++ header_bits_from c.args.bus.now c.args.first 0 (range_width c.args.bus.now.range))
    lt c.loop-k.invariant (c.in_ok-bit_name.ensures {u = tt}) c.is_input_port.ensures refl (c.in_ok-push.ensures {u = tt}).items
