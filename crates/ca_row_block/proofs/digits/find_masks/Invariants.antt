use Rattle.std.proofs.Common.{◌≡◌, ◌<◌, ℕ}
use Rattle.ca_planes.specs.Plane.{lane_at}
use Rattle.ca_row_block.specs.Masks.{has_digit}
use Rattle.ca_row_block.proofs.digits.find_masks.Given as goal

abbrev pub invariant-loop-digit : goal.invariant-loop-digit
invariant-loop-digit l = (k lane : ℕ) → k < l.digit → lane < 64 → lane_at l.masks k lane ≡ has_digit lane k
