use Rattle.std.proofs.Common.{◌≡◌, ◌<◌, ℕ, true}
use Rattle.ca_net.specs.State.{value_at}
use Rattle.ca_net.specs.Trit.{IsBelow}
use Rattle.ca_cell.specs.Row.{vector_of}
use Rattle.ca_flat.specs.Chip.{inputs_at, net_of}
use Rattle.ca_planes.specs.Plane.{has_lane}
use Rattle.ca_every_vector.specs.code.Lanes.{values_of}
use Rattle.ca_every_vector.proofs.lane_vectors.lanes_over.Given as goal

abbrev pub invariant-loop-pin : goal.invariant-loop-pin
invariant-loop-pin l = (lane : ℕ) → lane < 64 → ((pin : ℕ) → pin < l.pin
    → IsBelow (values_of l.values lane (net_of l.chip.core l.u pin)) (value_at (vector_of (inputs_at l.chip.core l.u) l.number) pin)) → has_lane l.lanes lane ≡ true
