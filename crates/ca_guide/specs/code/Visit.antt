-- One step of a flood: some nets are looked at. These words serve the proof alone.
use Rattle.std.specs.Prelude.{ℕ, ◌≡◌, ◌++◌, ◌<◌, Bool, true, false, List, slice_get, Some}
use Rattle.std.specs.List.{All, Contains}
use Rattle.ca_guide.specs.NumberSet.{Numbers}
use Rattle.ca_guide.specs.Flood.{Area}
use Rattle.ca_guide.specs.code.Flood.{IsFlooded}
use Rattle.ca_view.specs.NetLists.{linked_from}

-- the net is one of these and may be entered
pub record IsEntered (area : Area) (nets : List ℕ) (net : ℕ) : Type 0 where
  pub listed : Contains nets net
  pub enters : area.enters net ≡ true

-- nets that may be entered have been added after the members, none of which is an end
pub record Visits (area : Area) (nets : List ℕ) (old new : Numbers) : Type 0 where
  pub bound : new.bound ≡ old.bound
  pub added : List ℕ
  pub longer : new.members ≡ old.members ++ added
  pub entered : All (IsEntered area nets) added
  pub no_end : All (λ net. area.ends net ≡ true → ⊥) added

-- and each net that may be entered is a member
pub record VisitsAll (area : Area) (nets : List ℕ) (old new : Numbers) : Type 0 where
  pub visits : Visits area nets old new
  pub each : All (λ net. area.enters net ≡ true → Contains new.members net) nets

-- some net may be entered, and is an end
pub record MeetsEnd (area : Area) (nets : List ℕ) (old new : Numbers) : Type 0 where
  pub bound : new.bound ≡ old.bound
  pub net : ℕ
  pub entered : IsEntered area nets net
  pub ends : area.ends net ≡ true

-- true where an end was met
abbrev pub IsVisit : Bool → Area → List ℕ → Numbers → Numbers → Type 0
IsVisit true area nets old new = MeetsEnd area nets old new
IsVisit false area nets old new = VisitsAll area nets old new

-- the nets at the places below `done` have been visited
pub record IsSpread (links : List (List ℕ)) (area : Area) (roots members : List ℕ) (done : ℕ) : Type 0 where
  pub begin : (net : ℕ) → Contains roots net → area.enters net ≡ true → Contains members net
  pub onward : (place before net : ℕ) → place < done → slice_get members place ≡ Some before
      → Contains (linked_from links before) net → area.enters net ≡ true → Contains members net
  pub flooded : All (IsFlooded links area.enters roots) members
  pub no_end : All (λ net. area.ends net ≡ true → ⊥) members
