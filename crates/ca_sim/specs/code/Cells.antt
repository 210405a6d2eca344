-- What only proofs of code cite: the room for all cells of a chip.
use Rattle.std.specs.Prelude.{ℕ, ◌≡◌, ◌<◌, List, length, slice_index_or, Option, None, Some}
use Rattle.ca_response.specs.declared.rooms.Rooms.{Rooms}
use Rattle.ca_response.specs.Rooms.{AreRoomsOf}
use Rattle.ca_flat.specs.Chip.{Chip, cell_at}
use Rattle.ca_view.specs.Linked.{IsPlaced}
use Rattle.ca_sim.specs.declared.cells.Cells.{Cells}
use Rattle.ca_sim.specs.code.Cache.{HoldTrue}

-- for each instance with a place there are rooms of its cell, at the cell's number
pub record AreCellRooms (chip : Chip) (place_of number_of : ℕ → ℕ) (rooms : List Rooms) : Type 0 where
  pub within : (u : ℕ) → IsPlaced chip place_of u → number_of u < length rooms
  pub each : (u : ℕ) (past : Rooms) → IsPlaced chip place_of u
      → AreRoomsOf (cell_at chip u) (slice_index_or rooms (number_of u) past)

-- so are the rooms, and the filled slots are true
pub record AreCells (chip : Chip) (place_of number_of : ℕ → ℕ) (cells : Cells) : Type 0 where
  pub rooms : AreCellRooms chip place_of number_of cells.rooms.items
  pub slots : HoldTrue chip place_of number_of cells.cache.slots.items
  pub some : 0 < length cells.cache.slots.items

-- the instance is the first with a place whose cell has the number, if there is one
abbrev pub IsOneOf : Chip → (ℕ → ℕ) → (ℕ → ℕ) → ℕ → Option ℕ → Type 0
IsOneOf chip place_of number_of number None =
    (u : ℕ) → IsPlaced chip place_of u → number_of u ≡ number → ⊥
IsOneOf chip place_of number_of number (Some u) = IsPlaced chip place_of u × (number_of u ≡ number)

-- there are rooms of the cell of each instance whose cell has the number
abbrev pub FitCellsOf : Chip → (ℕ → ℕ) → (ℕ → ℕ) → ℕ → Rooms → Type 0
FitCellsOf chip place_of number_of number rooms =
    (u : ℕ) → IsPlaced chip place_of u → number_of u ≡ number → AreRoomsOf (cell_at chip u) rooms

-- so far, for each number below this one
pub record AreRoomsTo (chip : Chip) (place_of number_of : ℕ → ℕ) (end : ℕ) (rooms : List Rooms) : Type 0 where
  pub count : length rooms ≡ end
  pub each : (number : ℕ) (past : Rooms) → number < end
      → FitCellsOf chip place_of number_of number (slice_index_or rooms number past)
