-- The next place that is in two sets.
use Rattle.std.specs.Prelude.{ℕ, ◌≤◌, ◌<◌, Option, None, Some}
use Rattle.ca_places.specs.declared.place_set.PlaceSet.{PlaceSet}
use Rattle.ca_places.specs.PlaceSet.{Has}

-- no place from one on and before another is in both sets
abbrev pub NoneInBoth : PlaceSet → PlaceSet → ℕ → ℕ → Type 0
NoneInBoth set other from end = (place : ℕ) → from ≤ place → place < end → Has set place → Has other place → ⊥

-- the first place from one on that both sets have, if there is one before `end`
abbrev pub IsNextIn : PlaceSet → PlaceSet → ℕ → ℕ → Option ℕ → Type 0
IsNextIn set other from end None = NoneInBoth set other from end
IsNextIn set other from end (Some next) =
    (from ≤ next) × Has set next × Has other next × NoneInBoth set other from next
