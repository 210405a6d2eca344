-- What the fields of a confined simulator keep.
use Rattle.std.specs.Prelude.{ℕ, ◌≡◌, List, length, Option, None, Some}
use Rattle.ca_net.specs.declared.trit.Trit.{Trit}
use Rattle.ca_net.specs.declared.wave.Wave.{Wave}
use Rattle.ca_flat.specs.declared.chip_defect.ChipDefect.{ChipDefect}
use Rattle.ca_flat.specs.Chip.{Chip}
use Rattle.ca_flat.specs.Pair.{bit_count}
use Rattle.ca_view.specs.Linked.{IsLinked, IsPinned, IsAim}
use Rattle.ca_places.specs.declared.place_set.PlaceSet.{PlaceSet}
use Rattle.ca_sim.specs.declared.network.Network.{Network}
use Rattle.ca_sim.specs.code.Current.{AreUnset}
use Rattle.ca_sim.specs.code.Network.{IsUnderway}
use Rattle.ca_confined.specs.declared.scope.Scope.{Scope}
use Rattle.ca_confined.specs.code.Scope.{IsScopeRoom, IsScope}
use Rattle.ca_confined.specs.code.Settle.{NoneDue}

-- the scope is that of the instance of the defect that is aimed at, if one is
abbrev pub IsScopeOf : Chip → (ℕ → ℕ) → Option ChipDefect → Scope → Type 0
IsScopeOf chip place_of None scope = Unit {0}
IsScopeOf chip place_of (Some defect) scope = IsScope chip place_of defect.instance scope

-- the scope is that of the instance, if there is one
abbrev pub IsScopeAt : Chip → (ℕ → ℕ) → Option ℕ → Scope → Type 0
IsScopeAt chip place_of None scope = Unit {0}
IsScopeAt chip place_of (Some u) scope = IsScope chip place_of u scope

-- a network has the waves of the bits, but for instances that are due, none of which is in the scope
pub record IsConfined (chip : Chip) (place_of : ℕ → ℕ) (given : Option ChipDefect) (bits : List Trit)
    (scope : PlaceSet) (net : Network) : Type 0 where
  pub underway : IsUnderway chip place_of given bits net
  pub none : NoneDue scope net.due

-- the two networks of the bits, the scope, and the waves without any bit
pub record IsKept (chip : Chip) (place_of number_of : ℕ → ℕ) (aim : Option ChipDefect) (bits : List Trit)
    (good faulty : Network) (unset : List Wave) (scope : Scope) (part : Option ℕ) : Type 0 where
  pub linked : IsLinked chip place_of number_of
  pub pinned : IsPinned chip
  pub aim_is : IsAim chip place_of aim
  pub count : length bits ≡ bit_count chip
  pub good_is : IsConfined chip place_of None bits scope.places good
  pub faulty_is : IsConfined chip place_of aim bits scope.places faulty
  pub unset_are : AreUnset chip unset
  pub room : IsScopeRoom chip place_of scope
  pub scope_of : IsScopeOf chip place_of aim scope
  pub scope_at : IsScopeAt chip place_of part scope
