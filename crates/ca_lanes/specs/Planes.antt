-- What planes hold, lane by lane.
use Rattle.std.specs.Prelude.{ℕ, ◌≡◌, Bool, false, List, length}
use Rattle.ca_lanes.specs.declared.planes.Planes.{Planes}
use Rattle.ca_lanes.specs.Plane.{lane_of}
use Rattle.ca_lanes.specs.Choice.{Choice, choices_of}

-- for how many nets there is room
abbrev pub net_count : Planes → ℕ
net_count planes = length planes.firsts.items

-- whether the lane is loaded
abbrev pub is_loaded : Planes → ℕ → Bool
is_loaded planes lane = lane_of planes.loaded lane

-- what each net may be in the first frame of a lane
abbrev pub firsts_in : Planes → ℕ → List Choice
firsts_in planes lane = choices_of planes.firsts.items lane

-- what each net may be in the last frame of a lane
abbrev pub lasts_in : Planes → ℕ → List Choice
lasts_in planes lane = choices_of planes.lasts.items lane

-- there is room for `nets` nets, and no lane is loaded
pub record AreEmpty (nets : ℕ) (planes : Planes) : Type 0 where
  pub room : net_count planes ≡ nets
  pub unloaded : (lane : ℕ) → is_loaded planes lane ≡ false

-- the same lanes are loaded, and each holds what it held
pub record KeepsLanes (old new : Planes) : Type 0 where
  pub room : net_count new ≡ net_count old
  pub loaded : (lane : ℕ) → is_loaded new lane ≡ is_loaded old lane
  pub firsts : (lane : ℕ) → firsts_in new lane ≡ firsts_in old lane
  pub lasts : (lane : ℕ) → lasts_in new lane ≡ lasts_in old lane
