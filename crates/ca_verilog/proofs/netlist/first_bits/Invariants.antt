use Rattle.std.proofs.Common.{◌≡◌, ◌++◌, length}
use Rattle.ca_verilog.specs.Netlist.{bits_with, first_bits}
use Rattle.ca_verilog.proofs.netlist.first_bits.Given as goal

abbrev pub invariant-buses : goal.invariant-buses
invariant-buses l = record {
  numbers : l.firsts.items ++ first_bits l.bits l.rest ≡ first_bits 0 l.buses;
  total : bits_with l.bits l.rest ≡ bits_with 0 l.buses;
}

abbrev pub decreases-buses : goal.decreases-buses
decreases-buses l = length l.rest
