use Rattle.std.proofs.Common.{arith, ap, ◌∙◌, subst}
use Rattle.ca_verilog.specs.code.Kept.{IsOperand}
use Rattle.ca_verilog.specs.Netlist.{offset_in}
use Rattle.ca_verilog.proofs.BitLemmas.{bit_fits}
use Rattle.ca_verilog.proofs.netlist.Numbers.first_bit.Goals as goal

pub overflow_add-result : goal.overflow_add-result
overflow_add-result c =
    let fits = bit_fits c.args.self.now.firsts.now c.args.self.now.buses.now c.in-Bit.place c.in-Bit.index c.args.self.now.numbered
    (subst (IsOperand c.args.self.now.buses.now) c.in-Bit.is c.requires) in
    omega (
      arith,
      fits,
      c.args.self.now.few,
      c.first_at-in-Bit.ensures,
      c.offset_in-offset.ensures ∙ ap (λ range. offset_in range c.in-Bit.index) c.range_at.ensures,
    )
