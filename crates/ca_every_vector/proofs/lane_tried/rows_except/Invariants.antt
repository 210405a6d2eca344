use Rattle.std.proofs.Common.{ℕ, ◌≡◌, ◌<◌, ◌⊎◌, true}
use Rattle.ca_net.specs.State.{value_at}
use Rattle.ca_net.specs.Trit.{IsBelow}
use Rattle.ca_cell.specs.Row.{vector_of}
use Rattle.ca_flat.specs.Chip.{inputs_at, net_of}
use Rattle.ca_planes.specs.Plane.{has_lane}
use Rattle.ca_every_vector.specs.Possible.{Has}
use Rattle.ca_every_vector.specs.code.Lanes.{values_of}
use Rattle.ca_every_vector.proofs.lane_tried.rows_except.Given as goal

abbrev pub invariant-loop-number : goal.invariant-loop-number
invariant-loop-number l = (lane number : ℕ) → lane < 64 → number < l.number
    → ((pin : ℕ) → pin < inputs_at l.chip.core l.u → IsBelow (values_of l.values lane (net_of l.chip.core l.u pin)) (value_at (vector_of (inputs_at l.chip.core l.u) number) pin))
    → (has_lane l.stays lane ≡ true) ⊎ Has l.rows number
