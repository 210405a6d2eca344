-- Words of the code beside those of `specs/Chip.antt`. Private functions and proofs cite them.
use Rattle.std.specs.Prelude.{ℕ, ◌+◌, ◌^◌, ◌<◌, ◌≤◌, List, length}

-- these values are there, and their places can be counted
abbrev pub Spans : {Value : Type 0} → ℕ → ℕ → List Value → Type 0
Spans from count values = (from + count ≤ length values) × (from + count < 2 ^ 64)
