-- Sets that are emptied.
use Rattle.std.specs.Prelude.{ℕ, ◌<◌}
use Rattle.ca_places.specs.declared.place_set.PlaceSet.{PlaceSet}
use Rattle.ca_places.specs.PlaceSet.{Has, IsAsRoomy}

-- each place of the set is before this one
abbrev pub AreBelow : PlaceSet → ℕ → Type 0
AreBelow set end = (place : ℕ) → Has set place → place < end

-- the set is empty, and as roomy as it was
pub record IsEmptied (old new : PlaceSet) : Type 0 where
  pub none : (place : ℕ) → Has new place → ⊥
  pub room : IsAsRoomy new old
