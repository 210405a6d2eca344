-- What is found of a chip once: tables of the cells of its instances, its instances by their places, and
-- marks.
use Rattle.std.specs.Prelude.{ℕ, ◌+◌, ◌≡◌, ◌<◌, Bool, true, false, List, length, slice_index_or, Option, None}
use Rattle.std.specs.Prelude.{Some}
use Rattle.ca_net.specs.declared.wave.Wave.{Wave}
use Rattle.ca_flat.specs.Chip.{Chip, cell_at, count_of}
use Rattle.ca_view.specs.Linked.{IsPlaced}
use Rattle.ca_static.specs.LastTable.{IsTableWhereStatic}

-- the cell of each instance with a place has its table
pub record AreTables (chip : Chip) (place_of number_of : ℕ → ℕ) (tables : List (Option (List (List Wave))))
    : Type 0 where
  pub room : (u : ℕ) → IsPlaced chip place_of u → number_of u < length tables
  pub each : (u : ℕ) → IsPlaced chip place_of u
      → IsTableWhereStatic (cell_at chip u) (slice_index_or tables (number_of u) None)

-- of the first `count` instances each that has a place is at it, and nothing else is at a place
pub record AreAtPlaces (chip : Chip) (place_of : ℕ → ℕ) (count : ℕ) (order : List (Option ℕ)) : Type 0 where
  pub room : length order ≡ count_of chip + 1
  pub each : (u : ℕ) → u < count → 0 < place_of u → slice_index_or order (place_of u) None ≡ Some u
  pub only : (place u : ℕ) → slice_index_or order place None ≡ Some u
      → IsPlaced chip place_of u × (place_of u ≡ place)

-- so are all
abbrev pub IsOrder : Chip → (ℕ → ℕ) → List (Option ℕ) → Type 0
IsOrder chip place_of order = AreAtPlaces chip place_of (count_of chip) order

-- whether the instance is marked
abbrev pub is_marked : List Bool → ℕ → Bool
is_marked marks u = slice_index_or marks u false

-- a mark for each instance; what is marked has the property
pub record AreMarks (chip : Chip) (P : ℕ → Type 0) (marks : List Bool) : Type 0 where
  pub room : length marks ≡ count_of chip
  pub each : (u : ℕ) → is_marked marks u ≡ true → P u
