-- Which channel groups a change of values touches, and the devices of these. Only the proofs of the code cite
-- this.
use Rattle.std.specs.Prelude.{ℕ, Bool, false, ◌≡◌, ◌<◌, ◌≤◌, List, length, Some, slice_get, slice_index}
use Rattle.std.specs.Prelude.{slice_index_or}
use Rattle.std.specs.List.{All, Contains}
use Rattle.ca_net.specs.declared.device.Device.{Device}
use Rattle.ca_net.specs.Circuit.{Circuit}
use Rattle.ca_net.specs.State.{value_at}
use Rattle.ca_planes.specs.declared.block.Block.{Block}
use Rattle.ca_planes.specs.Trits.{state_in}

-- nothing is marked at this place
abbrev pub IsUnmarked : List Bool → ℕ → Type 0
IsUnmarked marks place = slice_index_or marks place false ≡ false

-- what isn't marked wasn't
abbrev pub StayMarked : List Bool → List Bool → Type 0
StayMarked old new = (place : ℕ) → IsUnmarked new place → IsUnmarked old place

-- the node has the same value in both blocks in each lane
abbrev pub IsSameAt : Block → Block → ℕ → Type 0
IsSameAt s t n = (lane : ℕ) → lane < 64 → value_at (state_in s lane) n ≡ value_at (state_in t lane) n

-- of the first nodes, those that aren't marked have the same values in both blocks
abbrev pub AreChanged : ℕ → Block → Block → List Bool → Type 0
AreChanged count s t changed = (n : ℕ) → n < count → IsUnmarked changed n → IsSameAt s t n

-- of the first nodes, those whose label isn't marked haven't changed
abbrev pub AreNodesMarked : ℕ → List ℕ → List Bool → List Bool → Type 0
AreNodesMarked count labels changed marks =
    (n : ℕ) → n < count → IsUnmarked marks (slice_index labels n) → IsUnmarked changed n

-- the device's gate and its ends haven't changed
pub record IsStill (changed : List Bool) (d : Device) : Type 0 where
  pub gate : IsUnmarked changed d.gate.0
  pub a : IsUnmarked changed d.a.0
  pub b : IsUnmarked changed d.b.0

-- and so of the first devices, by their homes
abbrev pub AreDevicesMarked : ℕ → List Device → List ℕ → List Bool → List Bool → Type 0
AreDevicesMarked count devices homes changed marks =
    (i : ℕ) (d : Device) → i < count → slice_get devices i ≡ Some d → IsUnmarked marks (slice_index homes i)
    → IsStill changed d

-- the device's gate and its ends have the same values in both blocks
pub record IsSameAround (s t : Block) (d : Device) : Type 0 where
  pub gate : IsSameAt s t d.gate.0
  pub a : IsSameAt s t d.a.0
  pub b : IsSameAt s t d.b.0

-- where two blocks differ, the groups are marked of the nodes, and of the devices with such a gate or end
pub record AreMarked (net : Circuit) (labels homes : List ℕ) (s t : Block) (marks : List Bool) : Type 0 where
  pub nodes : (n : ℕ) → n < length net.nodes → IsUnmarked marks (slice_index labels n) → IsSameAt s t n
  pub devices : (i : ℕ) (d : Device) → slice_get net.devices i ≡ Some d
      → IsUnmarked marks (slice_index homes i) → IsSameAround s t d

-- the device is among the first of the list
pub record IsAmong (count : ℕ) (chosen : List Device) (d : Device) : Type 0 where
  pub k : ℕ
  pub within : k < count
  pub there : slice_get chosen k ≡ Some d

-- the first devices of the list are some of the devices, and among them are those of the first devices whose
-- home is marked
pub record AreChosenTo (devices : List Device) (homes : List ℕ) (marks : List Bool) (i count : ℕ)
    (chosen : List Device) : Type 0 where
  pub few : count ≤ i
  pub only : (k : ℕ) (d : Device) → k < count → slice_get chosen k ≡ Some d → Contains devices d
  pub all : (j : ℕ) (d : Device) → j < i → slice_get devices j ≡ Some d
      → (IsUnmarked marks (slice_index homes j) → ⊥) → IsAmong count chosen d

-- they are some of the devices, and all whose home is marked
pub record AreChosen (devices : List Device) (homes : List ℕ) (marks : List Bool) (chosen : List Device)
    : Type 0 where
  pub few : length chosen ≤ length devices
  pub only : All (Contains devices) chosen
  pub all : (i : ℕ) (d : Device) → slice_get devices i ≡ Some d
      → (IsUnmarked marks (slice_index homes i) → ⊥) → Contains chosen d

-- the nodes whose label isn't marked have what they had in another block, and others what they had
pub record KeepsUnmarked (nodes : ℕ) (labels : List ℕ) (marks : List Bool) (from old new : Block)
    : Type 0 where
  pub unmarked : (lane n : ℕ) → n < nodes → IsUnmarked marks (slice_index labels n)
      → value_at (state_in new lane) n ≡ value_at (state_in from lane) n
  pub marked : (lane n : ℕ) → n < nodes → (IsUnmarked marks (slice_index labels n) → ⊥)
      → value_at (state_in new lane) n ≡ value_at (state_in old lane) n
