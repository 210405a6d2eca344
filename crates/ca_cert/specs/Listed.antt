-- What a check asks of a pair by the places of a list of defects.
use Rattle.std.specs.Prelude.{ℕ, ◌≡◌, ◌≤◌, ◌<◌, List, length, slice_get, Option, None, Some}
use Rattle.ca_places.specs.declared.place_set.PlaceSet.{PlaceSet}
use Rattle.ca_places.specs.PlaceSet.{Has}
use Rattle.ca_flat.specs.declared.chip_defect.ChipDefect.{ChipDefect}
use Rattle.ca_read_code.specs.Examined.{Examined}
use Rattle.ca_cert.specs.Tested.{IsDetectingOutput}

-- at which output the pair first detects the defect at the place, if it does
abbrev pub IsLook : Examined → List ChipDefect → ℕ → Option ℕ → Type 0
IsLook examined defects place output = (defect : ChipDefect) → slice_get defects place ≡ Some defect
    → IsDetectingOutput examined.chip defect examined.pair output

-- each place of the set is one of the list
abbrev pub AreWithin : List ChipDefect → PlaceSet → Type 0
AreWithin defects set = (place : ℕ) → Has set place → place < length defects

-- the first place of the set at or past this one, but for places of defects that the pair detects nowhere
abbrev pub IsNextToLook : Examined → List ChipDefect → PlaceSet → ℕ → Option ℕ → Type 0
IsNextToLook examined defects set from None =
    (place : ℕ) → from ≤ place → Has set place → IsLook examined defects place None
IsNextToLook examined defects set from (Some next) =
    (from ≤ next) × Has set next
    × ((place : ℕ) → from ≤ place → place < next → Has set place → IsLook examined defects place None)
