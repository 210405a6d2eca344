-- Words of the code: the values of nets in 64 lanes, for as many vectors of a region's inputs.
use Rattle.std.specs.Prelude.{ℕ, ◌+◌, ◌*◌, ◌/◌, ◌%◌, ◌^◌, ◌≡◌, ◌<◌, ◌≤◌, ◌⊎◌, ◌&&◌, Bool, true, List, length}
use Rattle.std.specs.Prelude.{slice_index_or}
use Rattle.ca_net.specs.declared.trit.Trit.{Trit}
use Rattle.ca_net.specs.State.{value_at}
use Rattle.ca_planes.specs.declared.block.Block.{Block}
use Rattle.ca_planes.specs.declared.trits.Trits.{Trits}
use Rattle.ca_planes.specs.Plane.{has_lane, lane_at}
use Rattle.ca_planes.specs.Trits.{HasNodes, state_in, trit_in}
use Rattle.ca_cell.specs.Row.{digit_value}
use Rattle.ca_flat.specs.Chip.{Chip, inputs_at, outputs_at, output_net}
use Rattle.ca_flips.specs.Flips.{vector_at}
use Rattle.ca_flips.specs.Known.{AreKnownLasts}
use Rattle.ca_static.specs.LastTable.{last_at}
use Rattle.ca_view.specs.NetLists.{NetLists}
use Rattle.ca_net.specs.declared.wave.Wave.{Wave}
use Rattle.ca_sweep.specs.code.Changes.{IsNumberOf}
use Rattle.ca_every_vector.specs.code.Fixed.{AreFixed}
use Rattle.ca_every_vector.specs.code.Region.{AreKnownWithin, AreSameOutside, HasLastsAt, IsForNumber}
use Rattle.ca_every_vector.specs.code.Region.{IsTriedAt}
use Rattle.ca_sweep.specs.declared.seen.Flips.{Flips}
use Rattle.ca_every_vector.specs.code.Spread.{AreSpread, IsChangedInside, StaysSomehow}

-- in each lane
abbrev pub InEach : (ℕ → Type 0) → Type 0
InEach P = (lane : ℕ) → lane < 64 → P lane

-- in each lane of the plane
abbrev pub InLanes : ℕ → (ℕ → Type 0) → Type 0
InLanes plane P = (lane : ℕ) → lane < 64 → has_lane plane lane ≡ true → P lane

-- the values of the nets in a lane
abbrev pub values_of : Block → ℕ → ℕ → Trit
values_of block lane = value_at (state_in block lane)

-- each of the first masks, this many, is parted in two: the lanes that one plane has too, and those that
-- another one has
pub record AreHalved (zero one count : ℕ) (old new : List ℕ) : Type 0 where
  pub room : length new ≡ length old
  pub low : (k lane : ℕ) → k < count → lane_at new (2 * k) lane ≡ (lane_at old k lane && has_lane zero lane)
  pub high : (k lane : ℕ) → k < count
      → lane_at new (2 * k + 1) lane ≡ (lane_at old k lane && has_lane one lane)

-- the lanes of the mask of each number have this vector at the input nets of the instance w
abbrev pub AreVectorMasks : Chip → ℕ → Block → List ℕ → Type 0
AreVectorMasks chip w values masks =
    (number lane : ℕ) → number < 2 ^ inputs_at chip w → lane < 64 → lane_at masks number lane ≡ true
    → IsNumberOf (inputs_at chip w) (vector_at chip w (values_of values lane)) number

-- no lane is in two of the first masks
abbrev pub AreApart : List ℕ → ℕ → Type 0
AreApart masks count =
    (lane k j : ℕ) → lane < 64 → k < count → j < count → lane_at masks k lane ≡ true
    → lane_at masks j lane ≡ true → k ≡ j

-- the lane is in one of them
abbrev pub IsCovered : List ℕ → ℕ → ℕ → Type 0
IsCovered masks count lane = (number : ℕ) × (number < count) × (lane_at masks number lane ≡ true)

-- in the lanes of the mask of each number the value is the last one of its entry
abbrev pub AreEnds : List (List Wave) → List ℕ → ℕ → ℕ → Trits → Type 0
AreEnds table masks count output ends =
    (number lane : ℕ) → number < count → lane < 64 → lane_at masks number lane ≡ true
    → trit_in ends lane ≡ last_at table number output

-- so are the values of the first output nets of the instance w
abbrev pub AreEndsOut : Chip → ℕ → List (List Wave) → List ℕ → ℕ → ℕ → Block → Type 0
AreEndsOut chip w table masks count end values =
    (output number lane : ℕ) → output < end → number < count → lane < 64 → lane_at masks number lane ≡ true
    → values_of values lane (output_net chip w output) ≡ last_at table number output

-- the net is an output net of the instance w
pub record IsOutNet (chip : Chip) (w net : ℕ) : Type 0 where
  pub output : ℕ
  pub within : output < outputs_at chip w
  pub on : output_net chip w output ≡ net

-- in each lane the values are the same but at output nets of the instance w
abbrev pub AreWrittenOut : Chip → ℕ → Block → Block → Type 0
AreWrittenOut chip w old new =
    InEach (λ lane. (net : ℕ) → (values_of new lane net ≡ values_of old lane net) ⊎ IsOutNet chip w net)

-- each instance of the list has a place at or after those before it
abbrev pub AreAscending : (ℕ → ℕ) → List ℕ → Type 0
AreAscending place_of parts =
    (i j : ℕ) → i < j → j < length parts
    → place_of (slice_index_or parts i 0) ≤ place_of (slice_index_or parts j 0)

-- the number of a lane of a block
abbrev pub number_in : ℕ → ℕ → ℕ
number_in block lane = 64 * block + lane

-- in each lane the value is the digit of its number with this many after it
abbrev pub AreDigits : ℕ → ℕ → Trits → Type 0
AreDigits block after value =
    InEach (λ lane. trit_in value lane ≡ digit_value (number_in block lane / 2 ^ after % 2))

-- elsewhere than in the region constants alone give values
abbrev pub AreLanesWithin : Chip → List ℕ → List ℕ → Block → Type 0
AreLanesWithin chip inputs parts values =
    InEach (λ lane. AreKnownWithin chip inputs parts (state_in values lane))

-- in each lane the values are known lasts of each pair with the digits of its number
abbrev pub AreLanesKnown : Chip → List ℕ → ℕ → Block → Type 0
AreLanesKnown chip inputs block values =
    InEach (λ lane. (pair : List Trit) → IsForNumber chip inputs (number_in block lane) pair
    → AreKnownLasts chip pair (values_of values lane))

-- two blocks have the same values in each lane
abbrev pub AreSameLanes : Block → Block → Type 0
AreSameLanes one other = InEach (λ lane. state_in one lane ≡ state_in other lane)

-- so they have but at listed nets
abbrev pub AreSameLanesOutside : Block → Block → List ℕ → Type 0
AreSameLanesOutside from values nets =
    InEach (λ lane. AreSameOutside (state_in from lane) (state_in values lane) nets)

-- values of all lanes that are spread from an instance's output nets
pub record AreLanesSpread (chip : Chip) (place_of : ℕ → ℕ) (u : ℕ) (values others : Block)
    (changed touched : List ℕ) : Type 0 where
  pub nodes : HasNodes (length chip.nets) others
  pub each : InEach (λ lane. AreSpread chip place_of u (state_in values lane) (state_in others lane)
      changed touched)

-- the net has the same value, or it isn't observed and all that read it are evaluated where the values are
-- known
abbrev pub IsSameOrInside : Chip → NetLists → List Trit → List Trit → ℕ → Type 0
IsSameOrInside chip lists values others net =
    (value_at others net ≡ value_at values net) ⊎ IsChangedInside chip lists values others net

-- of the instance u the mask has the last vectors that matter, for the values of each lane
abbrev pub HasLastsInLanes : Chip → Block → ℕ → ℕ → Type 0
HasLastsInLanes chip values u mask = InEach (λ lane. HasLastsAt chip (values_of values lane) u mask)

-- so it has for the numbers of each lane of a block
abbrev pub IsTriedInLanes : Chip → List ℕ → ℕ → List ℕ → ℕ → Type 0
IsTriedInLanes chip inputs block masks u =
    InEach (λ lane. IsTriedAt chip inputs (number_in block lane) masks u)

-- values that constants give nets, in each lane
pub record AreFixedLanes (chip : Chip) (fixed : Block) : Type 0 where
  pub nodes : HasNodes (length chip.nets) fixed
  pub each : InEach (λ lane. AreFixed chip (state_in fixed lane))

-- this choice of output pins of u stays inside
abbrev pub StaysFor : Chip → ℕ → List Trit → Bool → Bool → Type 0
StaysFor chip u values first second =
    (flips : Flips) → flips.first ≡ first → flips.second ≡ second → StaysSomehow chip u values flips
