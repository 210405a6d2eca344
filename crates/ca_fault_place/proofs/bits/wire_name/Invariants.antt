use Rattle.std.proofs.Common.{◌≡◌}
use Rattle.std.specs.Prelude.{drop}
use Rattle.ca_fault_place.specs.Names.{wire_name}
use Rattle.ca_fault_place.proofs.bits.wire_name.Given as goal

abbrev pub invariant-loop-k : goal.invariant-loop-k
invariant-loop-k l = wire_name l.buses l.wire ≡ wire_name (drop l.k l.buses) l.left
