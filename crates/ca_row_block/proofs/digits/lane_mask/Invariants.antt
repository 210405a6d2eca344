use Rattle.std.proofs.Common.{◌≡◌, ◌<◌, ℕ}
use Rattle.ca_planes.specs.Plane.{has_lane}
use Rattle.ca_row_block.specs.Masks.{has_digit}
use Rattle.ca_row_block.proofs.digits.lane_mask.Given as goal

abbrev pub invariant-loop-lane : goal.invariant-loop-lane
invariant-loop-lane l = (k : ℕ) → k < l.lane → has_lane l.mask k ≡ has_digit k l.fn.digit
