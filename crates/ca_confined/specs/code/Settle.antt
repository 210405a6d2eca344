-- Networks in which the instances of a scope aren't due.
use Rattle.std.specs.Prelude.{ℕ, ◌<◌, List, Option}
use Rattle.ca_net.specs.declared.trit.Trit.{Trit}
use Rattle.ca_flat.specs.declared.chip_defect.ChipDefect.{ChipDefect}
use Rattle.ca_flat.specs.Chip.{Chip}
use Rattle.ca_view.specs.Linked.{IsPlaced}
use Rattle.ca_places.specs.declared.place_set.PlaceSet.{PlaceSet}
use Rattle.ca_places.specs.PlaceSet.{Has}
use Rattle.ca_sim.specs.declared.network.Network.{Network}
use Rattle.ca_sim.specs.Network.{IsDue, IsReady, IsTwinAt}
use Rattle.ca_sim.specs.Current.{IsSimulated}

-- each instance of the scope is current in this network without a defect
abbrev pub IsTwinIn : Chip → (ℕ → ℕ) → PlaceSet → Network → Type 0
IsTwinIn chip place_of scope good =
    (u : ℕ) → IsPlaced chip place_of u → Has scope (place_of u) → IsTwinAt chip u good

-- no place before this one is due that is in the scope
abbrev pub NoneBefore : PlaceSet → PlaceSet → ℕ → Type 0
NoneBefore scope due end = (place : ℕ) → place < end → Has due place → Has scope place → ⊥

-- none of the scope is
abbrev pub NoneDue : PlaceSet → PlaceSet → Type 0
NoneDue scope due = (place : ℕ) → Has due place → Has scope place → ⊥

-- Whatever the pair is: where each instance that wasn't due was current, each that isn't due is, and no place
-- of the scope before this one is due.
pub record IsSettledTo (chip : Chip) (place_of : ℕ → ℕ) (given : Option ChipDefect) (scope : PlaceSet)
    (from : ℕ) (old new : Network) : Type 0 where
  pub ready : IsReady chip place_of new
  pub before : NoneBefore scope new.due from
  pub current : (pair : List Trit) → IsSimulated chip given pair (IsDue place_of old.due) old.waves
      → IsSimulated chip given pair (IsDue place_of new.due) new.waves

-- and none of the scope is
pub record IsSettledIn (chip : Chip) (place_of : ℕ → ℕ) (given : Option ChipDefect) (scope : PlaceSet)
    (old new : Network) : Type 0 where
  pub ready : IsReady chip place_of new
  pub none : NoneDue scope new.due
  pub current : (pair : List Trit) → IsSimulated chip given pair (IsDue place_of old.due) old.waves
      → IsSimulated chip given pair (IsDue place_of new.due) new.waves
