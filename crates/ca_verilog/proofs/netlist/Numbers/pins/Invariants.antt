use Rattle.std.proofs.Common.{◌≡◌, map, take}
use Rattle.ca_verilog.specs.Netlist.{raw_use}
use Rattle.ca_verilog.proofs.netlist.Numbers.pins.Given as goal

abbrev pub invariant-loop-used : goal.invariant-loop-used
invariant-loop-used l = l.raw ≡ map (raw_use l.self.firsts.now l.self.buses.now) (take l.used-index l.uses)
