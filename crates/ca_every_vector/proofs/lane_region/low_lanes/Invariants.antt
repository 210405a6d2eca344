use Rattle.std.proofs.Common.{ℕ, ◌≡◌, ◌/◌, ◌%◌, ◌^◌, ◌==◌, ◌<◌}
use Rattle.ca_planes.specs.Plane.{has_lane}
use Rattle.ca_every_vector.proofs.lane_region.low_lanes.Given as goal

abbrev pub invariant-loop-lane : goal.invariant-loop-lane
invariant-loop-lane l = (lane : ℕ) → lane < l.lane → has_lane l.plane lane ≡ (lane / 2 ^ l.after % 2 == 1)
