-- Planes: one bit for each of 64 lanes.
use Rattle.std.specs.Prelude.{ℕ, ◌==◌, Bool, List, slice_index}
use Rattle.std.specs.Int.{bit_at}

-- whether the plane has the lane: lane 0 is the lowest bit
unfoldable pub has_lane : ℕ → ℕ → Bool
has_lane plane lane = bit_at plane lane == 1

-- whether the plane at a place has the lane; past the list none has
abbrev pub lane_at : List ℕ → ℕ → ℕ → Bool
lane_at planes place lane = has_lane (slice_index planes place) lane
