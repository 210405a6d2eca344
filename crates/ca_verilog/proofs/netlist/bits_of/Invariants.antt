use Rattle.std.proofs.Common.{◌≡◌, ◌+◌, ◌*◌, ◌≤◌, ◌^◌, length}
use Rattle.ca_verilog.specs.Netlist.{bits_with}
use Rattle.ca_verilog.proofs.netlist.bits_of.Given as goal

abbrev pub invariant-buses : goal.invariant-buses
invariant-buses l =
    (bits_with l.bits l.rest ≡ bits_with 0 l.buses) × (l.bits + 2 ^ 32 * length l.rest ≤ 2 ^ 32 * length l.buses)

abbrev pub decreases-buses : goal.decreases-buses
decreases-buses l = length l.rest
