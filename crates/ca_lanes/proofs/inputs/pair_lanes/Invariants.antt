use Rattle.std.proofs.Common.{◌≡◌, ℕ}
use Rattle.ca_lanes.specs.Plane.{lane_of, is_lane}
use Rattle.ca_lanes.proofs.inputs.pair_lanes.Given as goal

abbrev pub invariant-loop-lane : goal.invariant-loop-lane
invariant-loop-lane l = (lane : ℕ) → lane_of l.lanes lane ≡ is_lane l.lane lane
