use Rattle.std.proofs.Common.{◌≡◌, map, take}
use Rattle.ca_verilog.specs.Netlist.{raw_instance}
use Rattle.ca_verilog.proofs.netlist.Numbers.instances.Given as goal

abbrev pub invariant-loop-instance : goal.invariant-loop-instance
invariant-loop-instance l = l.raw ≡ map (raw_instance l.self.firsts.now l.self.buses.now) (take l.instance-index l.instances)
