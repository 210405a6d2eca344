use Rattle.std.proofs.Common.{◌≡◌, take}
use Rattle.std.specs.List.{flat_map}
use Rattle.ca_verilog.specs.Netlist.{raw_joins}
use Rattle.ca_verilog.proofs.netlist.Numbers.joins.Given as goal

abbrev pub invariant-loop-join : goal.invariant-loop-join
invariant-loop-join l =
    l.raw ≡ flat_map (raw_joins l.self.firsts.now l.self.buses.now) (take l.join-index l.joins)
