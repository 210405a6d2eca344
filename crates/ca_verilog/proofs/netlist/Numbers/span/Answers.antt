use Rattle.std.proofs.Common.{arith}
use Rattle.ca_verilog.proofs.BitLemmas.{width_within}
use Rattle.ca_verilog.proofs.netlist.Numbers.span.Goals as goal

pub overflow_cast-result : goal.overflow_cast-result
overflow_cast-result c =
    omega (arith, width_within c.args.self.now.buses.now c.args.join.left c.requires.left_side, c.args.self.now.few, c.width_of-width.ensures.width)
