-- What only proofs of code cite: a finder beside lanes.
use Rattle.std.specs.Prelude.{ℕ, ◌<◌, List}
use Rattle.ca_net.specs.declared.trit.Trit.{Trit}
use Rattle.ca_net.specs.State.{value_at}
use Rattle.ca_sweep.specs.Seen.{AreSameAt, IsLanedFor, Laned, Loaded, trits_in}

-- a lane has these values at all nets with a pin
abbrev pub IsAtLane : Laned → ℕ → List Trit → Type 0
IsAtLane laned lane lasts = AreSameAt laned.pinned (value_at (trits_in laned.ones lane)) (value_at lasts)

-- the last values are those of a lane, if that is one
abbrev pub IsInLane : Laned → ℕ → List Trit → Type 0
IsInLane laned lane lasts = lane < 64 → IsAtLane laned lane lasts

-- the lanes are of the finder's chip, and one of them has its last values
pub record IsLanedFinder (finder : Loaded) (laned : Laned) (lane : ℕ) : Type 0 where
  pub lanes_are : IsLanedFor finder.chip finder.places laned
  pub lane_is : IsInLane laned lane finder.lasts
