-- The instances at the places of an order.
use Rattle.std.specs.Prelude.{ℕ, ◌+◌, ◌≡◌, ◌<◌, List, length, Option, Some, slice_get}
use Rattle.ca_flat.specs.Chip.{Chip, count_of}
use Rattle.ca_view.specs.Linked.{IsPlaced}

-- at each place of the order stands the instance that has it, if it is one of the first `count`
pub record IsOrderTo (chip : Chip) (place_of : ℕ → ℕ) (count : ℕ) (order : List (Option ℕ)) : Type 0 where
  pub size : length order ≡ count_of chip + 1
  pub each : (u : ℕ) → u < count → IsPlaced chip place_of u → slice_get order (place_of u) ≡ Some (Some u)
  pub only : (place u : ℕ) → slice_get order place ≡ Some (Some u)
      → IsPlaced chip place_of u × (place_of u ≡ place)

-- among all
abbrev pub IsOrder : Chip → (ℕ → ℕ) → List (Option ℕ) → Type 0
IsOrder chip place_of order = IsOrderTo chip place_of (count_of chip) order
