-- What the limits of a block are, lane by lane.
use Rattle.std.specs.Prelude.{ℕ, ◌≡◌, ◌≢◌, ◌+◌, ◌*◌, ◌/◌, ◌%◌, ◌^◌, ◌<◌, ◌↔◌, List, length}
use Rattle.ca_net.specs.declared.trit.Trit.{Trit}
use Rattle.ca_net.specs.declared.trit.Trit.TheVariants.{X}
use Rattle.ca_net.specs.Circuit.{Circuit}
use Rattle.ca_net.specs.State.{value_at}
use Rattle.ca_net.specs.PairRun.{EndsAt}
use Rattle.ca_net.specs.Limits.{HasInputs, IsMeet, IsFirstLimit, AreLimits}
use Rattle.ca_planes.specs.declared.block.Block.{Block}
use Rattle.ca_planes.specs.Trits.{state_in}
use Rattle.ca_block.specs.declared.work.BlockWork.{BlockWork}

-- these states are the limits for any vectors that two states have at the input nodes, and for a vector
-- between that is their meet there
abbrev pub AreLimitsIn : Circuit → List Trit → List Trit → List Trit → List Trit → List Trit → Type 0
AreLimitsIn net from to first middle last =
    (v1 vm v2 : List Trit) → HasInputs net v1 from → HasInputs net v2 to → IsMeet net v1 v2 vm
    → AreLimits net v1 vm v2 first middle last

-- each lane of the kept states is the first limit for what a block has at the input nodes there
abbrev pub HoldsFirsts : Circuit → Block → BlockWork → Type 0
HoldsFirsts net from work =
    (lane : ℕ) → lane < 64 → IsFirstLimit net (state_in from lane) (state_in work.firsts lane)

-- the lane of the kept first limits with which a lane begins: 64 pairs of vectors after another are a block,
-- and as many of them as the power says have one first vector
abbrev pub source_lane : ℕ → ℕ → ℕ → ℕ
source_lane power block lane = (block % 64 * 64 + lane) / 2 ^ power % 64

-- those lanes have the first limits for what the block has at the input nodes
abbrev pub BeginThere : Circuit → Block → ℕ → ℕ → BlockWork → Type 0
BeginThere net from power block work =
    (lane : ℕ) → lane < 64
    → IsFirstLimit net (state_in from lane) (state_in work.firsts (source_lane power block lane))

-- at each node the last state is 0 or 1 exactly where every pair run ends with it, for any vectors that two
-- states have at the input nodes
abbrev pub EndIn : Circuit → List Trit → List Trit → List Trit → Type 0
EndIn net from to last =
    (v1 v2 : List Trit) (n : ℕ) (v : Trit) → HasInputs net v1 from → HasInputs net v2 to
    → n < length net.nodes
    → ((v ≢ X) × (value_at last n ≡ v)) ↔ EndsAt net v1 v2 n v

-- in a lane the room holds the limits for the vectors of two blocks
abbrev pub HoldsLimits : Circuit → Block → Block → ℕ → BlockWork → Type 0
HoldsLimits net from to lane work =
    AreLimitsIn net (state_in from lane) (state_in to lane) (state_in work.first lane)
    (state_in work.middle lane) (state_in work.last lane)

-- in a lane the last limits are what every pair run ends with
abbrev pub HoldsEnds : Circuit → Block → Block → ℕ → BlockWork → Type 0
HoldsEnds net from to lane work =
    EndIn net (state_in from lane) (state_in to lane) (state_in work.last lane)
