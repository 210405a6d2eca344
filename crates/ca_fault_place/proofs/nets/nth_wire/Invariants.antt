use Rattle.std.proofs.Common.{◌≡◌, ◌+◌}
use Rattle.ca_fault_place.specs.code.Touched.{known_count}
use Rattle.ca_fault_place.proofs.nets.nth_wire.Given as goal

abbrev pub invariant-loop-w : goal.invariant-loop-w
invariant-loop-w l = known_count (record { earliest = l.earliest; used = l.used }) l.w + l.left ≡ l.net
