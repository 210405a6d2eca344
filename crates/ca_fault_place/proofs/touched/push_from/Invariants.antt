use Rattle.std.proofs.Common.{◌≡◌, ◌++◌, ◌+◌, ◌-◌}
use Rattle.ca_fault_place.specs.code.Touched.{wires_from}
use Rattle.ca_fault_place.proofs.touched.push_from.Given as goal

abbrev pub invariant-loop-k : goal.invariant-loop-k
invariant-loop-k l = l.wires.items ++ wires_from (l.first + l.k) (l.count - l.k)
    ≡ l.fn.wires.items ++ wires_from l.first l.count
