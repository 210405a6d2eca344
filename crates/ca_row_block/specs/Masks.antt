-- Binary digits of the numbers of rows, and the lanes that have them.
use Rattle.std.specs.Prelude.{ℕ, ◌≡◌, ◌<◌, Bool, List}
use Rattle.ca_planes.specs.Plane.{has_lane, lane_at}

-- whether the number has this binary digit, the lowest being 0
abbrev pub has_digit : ℕ → ℕ → Bool
has_digit number digit = has_lane number digit

-- for each digit the lanes whose number has it
abbrev pub AreMasks : List ℕ → Type 0
AreMasks masks = (digit lane : ℕ) → digit < 6 → lane < 64 → lane_at masks digit lane ≡ has_digit lane digit
