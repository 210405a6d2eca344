-- Planes: one bit for each of 256 lanes.
use Rattle.std.specs.Prelude.{ℕ, ◌/◌, ◌%◌, ◌==◌, Bool, get_or, ltb}
use Rattle.std.specs.Int.{bit_at}
use Rattle.ca_lanes.specs.declared.plane.Plane.{Plane}

-- whether the bit of a lane is set: lane 0 has the lowest bit of the first word
unfoldable pub lane_of : Plane → ℕ → Bool
lane_of plane lane = bit_at (get_or plane.bits (lane / 64) 0) (lane % 64) == 1

-- whether the lane is one of the first `count`
abbrev pub is_lane : ℕ → ℕ → Bool
is_lane count lane = ltb lane count
