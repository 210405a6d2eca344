-- What only proofs of code cite: values of nets in 64 lanes, where each lane is a sweep of its own.
use Rattle.std.specs.Prelude.{ℕ, zero, suc, ◌+◌, ◌*◌, ◌^◌, ◌==◌, ◌≡◌, ◌<◌, ◌≤◌, Bool, true, false, List}
use Rattle.std.specs.Prelude.{length, Option, ◌≢◌, ◌&&◌, not, slice_index}
use Rattle.ca_net.specs.declared.trit.Trit.{Trit}
use Rattle.ca_net.specs.declared.wave.Wave.{Wave}
use Rattle.ca_net.specs.State.{value_at}
use Rattle.ca_planes.specs.Plane.{has_lane, lane_at}
use Rattle.ca_flat.specs.Chip.{Chip, count_of}
use Rattle.ca_places.specs.PlaceSet.{HoldsUpTo}
use Rattle.ca_sweep.specs.declared.lane_run.LaneHalt.{LaneHalt}
use Rattle.ca_sweep.specs.declared.lane_run.LaneHalt.TheVariants.{Done, Cut}
use Rattle.ca_sweep.specs.declared.lane_values.LaneFlips.{LaneFlips}
use Rattle.ca_sweep.specs.declared.lane_values.LaneValues.{LaneValues}
use Rattle.ca_sweep.specs.declared.run.Halt.{Halt}
use Rattle.ca_sweep.specs.declared.run.Halt.TheVariants as halt
use Rattle.ca_sweep.specs.declared.seen.Flips.{Flips}
use Rattle.ca_sweep.specs.declared.values.Values.{Values}
use Rattle.ca_view.specs.Linked.{IsPlaced}
pub use Rattle.ca_sweep.specs.Seen.{trits_in}
use Rattle.ca_sweep.specs.Tables.{AreTables, IsOrder}
use Rattle.ca_sweep.specs.code.Changes.{IsDue}
use Rattle.ca_sweep.specs.code.Firsts.{AreFirsts}
use Rattle.ca_sweep.specs.code.Kept.{AreAllStatic}
use Rattle.ca_sweep.specs.code.Pinned.{ArePinnedMarked}
use Rattle.ca_sweep.specs.code.Faulty.{code_of}
use Rattle.ca_sweep.specs.code.Segments.{IsSweptFrom}

-- the value of each net there
abbrev pub goods_in : List ℕ → ℕ → ℕ → Trit
goods_in ones lane = value_at (trits_in ones lane)

-- the values of a lane, and the places that are due
abbrev pub values_in : LaneValues → ℕ → Values
values_in values lane = record { values = trits_in values.ones.items lane; due = values.due }

-- the flips of a lane
abbrev pub flips_in : LaneFlips → ℕ → Flips
flips_in flips lane = record { first = has_lane flips.first lane; second = has_lane flips.second lane }

-- how a sweep halts in a lane
abbrev pub halt_in : LaneHalt → ℕ → Halt
halt_in Done lane = halt.Done
halt_in (Cut cut) lane = halt.Cut (record { instance = cut.instance; flips = flips_in cut.flips lane })

-- a plane for each net, and room for each place
pub record AreLanesRoomy (chip : Chip) (values : LaneValues) : Type 0 where
  pub nets : length values.ones.items ≡ length chip.nets
  pub places : HoldsUpTo values.due (count_of chip + 1)

-- a digit
abbrev pub digit_of_bit : Bool → ℕ
digit_of_bit true = 1
digit_of_bit false = 0

-- the number whose first digits, this many, are these bits, the first one the highest
abbrev pub number_to : (ℕ → Bool) → ℕ → ℕ
number_to bits zero = 0
number_to bits (suc count) = 2 * number_to bits count + digit_of_bit (bits count)

-- of the first 2^count masks just that of the number has the lane
abbrev pub AreMasksTo : (ℕ → Bool) → ℕ → List ℕ → ℕ → Type 0
AreMasksTo bits count masks lane =
    (k : ℕ) → k < 2 ^ count → lane_at masks k lane ≡ (number_to bits count == k)

-- each of the first masks, this many, is parted in two: the lanes that a plane doesn't have, and the others
pub record AreParted (one count : ℕ) (old new : List ℕ) : Type 0 where
  pub room : length new ≡ length old
  pub without : (k lane : ℕ) → k < count
      → lane_at new (2 * k) lane ≡ (lane_at old k lane && not (has_lane one lane))
  pub having : (k lane : ℕ) → k < count
      → lane_at new (2 * k + 1) lane ≡ (lane_at old k lane && has_lane one lane)

-- values found an instance at a time, where output pins of u are flipped, are opposite to the good ones at no
-- observed output
abbrev pub IsUnseen : Chip → (ℕ → ℕ) → (ℕ → Trit) → ℕ → Flips → Type 0
IsUnseen chip place_of goods u flips = IsSweptFrom chip place_of goods u flips (length chip.outputs)

-- Planes of lanes, four for each instance, one for each choice of its output pins: from a place on, flips
-- that are seen in a lane are in these.
pub record AreSeenFrom (chip : Chip) (place_of : ℕ → ℕ) (goods : List ℕ) (from : ℕ) (seen : List ℕ) : Type 0
  where
    pub room : length seen ≡ 4 * count_of chip
    pub each : (u : ℕ) (flips : Flips) (lane : ℕ) → IsPlaced chip place_of u → from ≤ place_of u → lane < 64
        → lane_at seen (4 * u + code_of flips.first flips.second) lane ≡ false
        → IsUnseen chip place_of (goods_in goods lane) u flips

-- the planes of the three choices of an instance with a flip are kept, and all others stay
pub record AreThreePut (u first second two : ℕ) (old new : List ℕ) : Type 0 where
  pub room : length new ≡ length old
  pub one : slice_index new (4 * u + 1) ≡ first
  pub other : slice_index new (4 * u + 2) ≡ second
  pub both : slice_index new (4 * u + 3) ≡ two
  pub rest : (place : ℕ) → place ≢ 4 * u + 1 → place ≢ 4 * u + 2 → place ≢ 4 * u + 3
      → slice_index new place ≡ slice_index old place

-- What is kept for lanes: the first outputs of nets, the tables of the cells, the instances by their places,
-- which instances are wanted, a plane for each net, and the planes of flips, which are true where they were
-- found for these planes of nets.
pub record AreLanesKept (chip : Chip) (place_of number_of : ℕ → ℕ) (count : ℕ) (firsts : List ℕ)
    (tables : List (Option (List (List Wave)))) (is_static : Bool) (order : List (Option ℕ))
    (pinned wanted : List Bool) (ones : List ℕ) (values : LaneValues) (masks seen : List ℕ) (is_found : Bool)
    : Type 0 where
  pub count_is : count ≡ length chip.outputs
  pub firsts_are : AreFirsts chip.outputs (length chip.nets) firsts
  pub tables_are : AreTables chip place_of number_of tables
  pub all_static : is_static ≡ true → AreAllStatic chip place_of
  pub order_is : IsOrder chip place_of order
  pub pinned_are : ArePinnedMarked chip place_of pinned
  pub pinned_room : length pinned ≡ length chip.nets
  pub wanted_room : length wanted ≡ count_of chip
  pub nets : length ones ≡ length chip.nets
  pub roomy : AreLanesRoomy chip values
  pub none : (place : ℕ) → ¬ (IsDue values.due place)
  pub masks_are : length masks ≡ 64
  pub room : length seen ≡ 4 * count_of chip
  pub static_found : is_found ≡ true → is_static ≡ true
  pub found : is_found ≡ true → AreSeenFrom chip place_of ones 0 seen
