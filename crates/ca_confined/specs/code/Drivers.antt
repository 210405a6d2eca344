-- The places of the instances that drive the nets.
use Rattle.std.specs.Prelude.{ℕ, ◌≡◌, ◌<◌, List, length, slice_index}
use Rattle.ca_flat.specs.Chip.{Chip, outputs_at, output_net, count_of}
use Rattle.ca_view.specs.Linked.{IsPlaced, IsPlace}

-- a place for each net: 0, or that of an instance
pub record AreSome (chip : Chip) (place_of : ℕ → ℕ) (drivers : List ℕ) : Type 0 where
  pub count : length drivers ≡ length chip.nets
  pub places : (net : ℕ) → 0 < slice_index drivers net → IsPlace chip place_of (slice_index drivers net)

-- so far, the place of the driver where that is one of the first `end` instances
pub record AreDriversTo (chip : Chip) (place_of : ℕ → ℕ) (end : ℕ) (drivers : List ℕ) : Type 0 where
  pub some : AreSome chip place_of drivers
  pub each : (u output : ℕ) → u < end → IsPlaced chip place_of u → output < outputs_at chip u
      → slice_index drivers (output_net chip u output) ≡ place_of u

-- and of the instance after these, as far as the first `done` outputs
pub record AreDriversAt (chip : Chip) (place_of : ℕ → ℕ) (end done : ℕ) (drivers : List ℕ) : Type 0 where
  pub before : AreDriversTo chip place_of end drivers
  pub here : (output : ℕ) → output < done → slice_index drivers (output_net chip end output) ≡ place_of end

-- each net has the place of its driver
abbrev pub AreDrivers : Chip → (ℕ → ℕ) → List ℕ → Type 0
AreDrivers chip place_of drivers = AreDriversTo chip place_of (count_of chip) drivers
