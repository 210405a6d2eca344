-- The observed outputs that an instance reaches, and the places of the instances that lead to them.
use Rattle.std.specs.Prelude.{ℕ, ◌+◌, ◌≡◌, ◌<◌, ◌≤◌, ◌⊎◌, length}
use Rattle.std.specs.List.{Contains}
use Rattle.ca_flat.specs.Chip.{Chip, Drives, inputs_at, outputs_at, net_of, output_net, count_of}
use Rattle.ca_flat.specs.Chain.{IsOutputOf, IsReachedFrom}
use Rattle.ca_view.specs.Linked.{Reads, IsPlaced, IsPlace}
use Rattle.ca_places.specs.declared.place_set.PlaceSet.{PlaceSet}
use Rattle.ca_places.specs.PlaceSet.{Has, HoldsUpTo}
use Rattle.ca_confined.specs.declared.scope.Scope.{Scope}
use Rattle.ca_confined.specs.code.Drivers.{AreDrivers}

-- what the fields of a scope keep: room for each place and each net, and what they are places and nets of
pub record IsScopeRoom (chip : Chip) (place_of : ℕ → ℕ) (scope : Scope) : Type 0 where
  pub drivers : AreDrivers chip place_of scope.drivers.items
  pub reach_room : HoldsUpTo scope.reach (count_of chip + 1)
  pub places_room : HoldsUpTo scope.places (count_of chip + 1)
  pub outputs_room : HoldsUpTo scope.outputs (length chip.nets + 1)
  pub reach_within : (place : ℕ) → Has scope.reach place → IsPlace chip place_of place
  pub places_within : (place : ℕ) → Has scope.places place → IsPlace chip place_of place
  pub outputs_within : (net : ℕ) → Has scope.outputs net → Contains chip.outputs net

-- the readers of the instance's output nets are behind, and the observed ones of these nets are reached
pub record IsSeenTo (chip : Chip) (place_of : ℕ → ℕ) (u end : ℕ) (scope : Scope) : Type 0 where
  pub readers : (output w : ℕ) → output < end → Reads chip w (output_net chip u output)
      → Has scope.reach (place_of w)
  pub observed : (output : ℕ) → output < end → Contains chip.outputs (output_net chip u output)
      → Has scope.outputs (output_net chip u output)

-- all of them
abbrev pub IsSeen : Chip → (ℕ → ℕ) → ℕ → Scope → Type 0
IsSeen chip place_of u scope = IsSeenTo chip place_of u (outputs_at chip u) scope

-- nothing is taken out
pub record Grows (old new : Scope) : Type 0 where
  pub reach : (place : ℕ) → Has old.reach place → Has new.reach place
  pub outputs : (net : ℕ) → Has old.outputs net → Has new.outputs net
  pub places : (place : ℕ) → Has old.places place → Has new.places place

-- what is behind comes later, and an output that is reached has its driver in the scope
pub record AddsFor (chip : Chip) (place_of : ℕ → ℕ) (u : ℕ) (old new : Scope) : Type 0 where
  pub later : (place : ℕ) → Has new.reach place → Has old.reach place ⊎ (place_of u < place)
  pub rooted : (net : ℕ) → Has new.outputs net
      → Has old.outputs net ⊎ (IsOutputOf chip u net × Has new.places (place_of u))

-- the first `end` outputs of an instance were visited
pub record IsVisitedTo (chip : Chip) (place_of : ℕ → ℕ) (u end : ℕ) (old new : Scope) : Type 0 where
  pub seen : IsSeenTo chip place_of u end new
  pub grows : Grows old new
  pub adds : AddsFor chip place_of u old new

-- all were
abbrev pub IsVisited : Chip → (ℕ → ℕ) → ℕ → Scope → Scope → Type 0
IsVisited chip place_of u old new = IsVisitedTo chip place_of u (outputs_at chip u) old new

-- an output net of an instance was noted if it is observed
pub record IsNoted (chip : Chip) (place_of : ℕ → ℕ) (u net : ℕ) (old new : Scope) : Type 0 where
  pub reach : new.reach ≡ old.reach
  pub grows : Grows old new
  pub observed : Contains chip.outputs net → Has new.outputs net
  pub rooted : (other : ℕ) → Has new.outputs other
      → Has old.outputs other ⊎ ((other ≡ net) × Has new.places (place_of u))

-- each reached output has its driver in the scope
abbrev pub IsRooted : Chip → (ℕ → ℕ) → Scope → Type 0
IsRooted chip place_of scope = (net : ℕ) → Has scope.outputs net → (drives : Drives chip net)
    → 0 < place_of drives.instance → Has scope.places (place_of drives.instance)

-- each instance behind one was visited, up to a place, and so was that one
pub record IsReachedTo (chip : Chip) (place_of : ℕ → ℕ) (u from : ℕ) (scope : Scope) : Type 0 where
  pub done : (w : ℕ) → IsPlaced chip place_of w → place_of w < from → Has scope.reach (place_of w)
      → IsSeen chip place_of w scope
  pub own : IsSeen chip place_of u scope
  pub rooted : IsRooted chip place_of scope

-- the drivers of the first `end` input pins of an instance are in the scope
abbrev pub HasDriversTo : Chip → (ℕ → ℕ) → ℕ → ℕ → Scope → Type 0
HasDriversTo chip place_of u end scope = (pin : ℕ) → pin < end → (drives : Drives chip (net_of chip u pin))
    → 0 < place_of drives.instance → Has scope.places (place_of drives.instance)

-- so are those of all pins of each instance of the scope from a place on
abbrev pub IsClosedFrom : Chip → (ℕ → ℕ) → ℕ → Scope → Type 0
IsClosedFrom chip place_of from scope = (u : ℕ) → IsPlaced chip place_of u → from ≤ place_of u
    → Has scope.places (place_of u) → HasDriversTo chip place_of u (inputs_at chip u) scope

-- a place was added, unless it is 0 or not before another
pub record IsAddedBefore (place end : ℕ) (old new : PlaceSet) : Type 0 where
  pub here : 0 < place → place < end → Has new place
  pub kept : (other : ℕ) → Has old other → Has new other
  pub added : (other : ℕ) → Has new other → Has old other ⊎ ((other ≡ place) × (0 < place) × (place < end))
  pub room : (count : ℕ) → HoldsUpTo old count → HoldsUpTo new count

-- drivers were added, all before a place
pub record AddsDrivers (end : ℕ) (old new : Scope) : Type 0 where
  pub outputs : new.outputs ≡ old.outputs
  pub places : (place : ℕ) → Has old.places place → Has new.places place
  pub before : (place : ℕ) → Has new.places place → Has old.places place ⊎ (place < end)

-- the observed nets that the instance reaches are there, and with each the instances that lead to it
pub record IsScope (chip : Chip) (place_of : ℕ → ℕ) (u : ℕ) (scope : Scope) : Type 0 where
  pub reached : (net : ℕ) → Contains chip.outputs net → IsReachedFrom chip u net → Has scope.outputs net
  pub rooted : IsRooted chip place_of scope
  pub closed : IsClosedFrom chip place_of 0 scope
