-- Marks of nets.
use Rattle.std.specs.Prelude.{ℕ, ◌+◌, ◌≡◌, ◌<◌, ◌⊎◌, ◌↔◌, Bool, true, false, List, length, slice_index_or}
use Rattle.std.specs.List.{Contains}
use Rattle.ca_flat.specs.Chip.{Chip, net_of}

-- the net has a mark
abbrev pub IsMarked : List Bool → ℕ → Type 0
IsMarked marks net = slice_index_or marks net false ≡ true

-- the net has got a mark, if it has one in the other list
pub record MarksIf (others : List Bool) (net : ℕ) (old new : List Bool) : Type 0 where
  pub count : length new ≡ length old
  pub each : (other : ℕ) → IsMarked new other ↔ (IsMarked old other ⊎ ((net ≡ other) × IsMarked others net))

-- each net of the list has
pub record MarksListed (others : List Bool) (nets : List ℕ) (old new : List Bool) : Type 0 where
  pub count : length new ≡ length old
  pub each : (net : ℕ) → IsMarked new net ↔ (IsMarked old net ⊎ (Contains nets net × IsMarked others net))

-- none of the first `count` nets of the list has a mark
abbrev pub IsNoneMarkedBelow : List Bool → ℕ → List ℕ → Type 0
IsNoneMarkedBelow marks count nets = (k d : ℕ) → k < count → k < length nets
    → IsMarked marks (slice_index_or nets k d) → ⊥

-- the net is at one of the first `count` places of the list
pub record IsListedBelow (nets : List ℕ) (count net : ℕ) : Type 0 where
  pub place : ℕ
  pub below : place < count
  pub within : place < length nets
  pub is : slice_index_or nets place net ≡ net

-- each of the first `count` nets of the list has got a mark, if it has one in the other list
pub record MarksListedTo (others : List Bool) (nets : List ℕ) (count : ℕ) (old new : List Bool) : Type 0 where
  pub size : length new ≡ length old
  pub each : (net : ℕ)
      → IsMarked new net ↔ (IsMarked old net ⊎ (IsListedBelow nets count net × IsMarked others net))

-- the net is on one of `count` pins of the instance u, from a pin on
pub record IsOnPins (chip : Chip) (u from count net : ℕ) : Type 0 where
  pub pin : ℕ
  pub within : pin < count
  pub on : net_of chip u (from + pin) ≡ net

-- each net on these pins has got a mark, if it has one in the other list
pub record MarksPins (chip : Chip) (others : List Bool) (u from count : ℕ) (old new : List Bool)
    : Type 0 where
  pub size : length new ≡ length old
  pub each : (net : ℕ) → IsMarked new net
      ↔ (IsMarked old net ⊎ (IsOnPins chip u from count net × IsMarked others net))

-- some net on these pins has a mark
pub record HasMarkedPin (chip : Chip) (marks : List Bool) (u from count : ℕ) : Type 0 where
  pub pin : ℕ
  pub within : pin < count
  pub marked : IsMarked marks (net_of chip u (from + pin))

-- where some net on the one pins has a mark, each net on the others has got one, if it has one in the other
-- list
pub record Passes (chip : Chip) (others : List Bool) (u from count onto onto_count : ℕ) (old new : List Bool)
    : Type 0 where
  pub size : length new ≡ length old
  pub kept : (net : ℕ) → IsMarked old net → IsMarked new net
  pub passed : HasMarkedPin chip old u from count → (net : ℕ) → IsOnPins chip u onto onto_count net
      → IsMarked others net → IsMarked new net
  pub only : (net : ℕ) → IsMarked new net → IsMarked old net
      ⊎ (HasMarkedPin chip old u from count × IsOnPins chip u onto onto_count net × IsMarked others net)
