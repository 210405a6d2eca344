use Rattle.std.proofs.Common.{◌≡◌}
use Rattle.ca_lanes.specs.Planes.{net_count}
use Rattle.ca_lanes_tests.specs.declared.netlists.TheConstants.{NETS}
use Rattle.ca_lanes_tests.proofs.lanes.values_and_suspects_are_those_worked_out_by_hand.Given as goal

abbrev pub invariant-loop-count : goal.invariant-loop-count
invariant-loop-count g l = net_count l.planes ≡ NETS

abbrev pub invariant-loop-pins : goal.invariant-loop-pins
invariant-loop-pins g l = net_count l.planes ≡ NETS
