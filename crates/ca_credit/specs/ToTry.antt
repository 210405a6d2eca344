-- Which defects are left to be tried with a pair: those of which last values don't say at once that the pair
-- detects them nowhere.
use Rattle.std.specs.Prelude.{ℕ, ◌≤◌, ◌<◌, List, length, Option, None, Some}
use Rattle.ca_net.specs.declared.trit.Trit.{Trit}
use Rattle.ca_places.specs.declared.place_set.PlaceSet.{PlaceSet}
use Rattle.ca_places.specs.PlaceSet.{Has}
use Rattle.ca_flat.specs.declared.chip_defect.ChipDefect.{ChipDefect}
use Rattle.ca_credit.specs.Defects.{Task, IsDefectAt}
use Rattle.ca_credit.specs.Detection.{IsAnswer}

-- each place of the set is one of the list of defects
abbrev pub AreWithin : Task → PlaceSet → Type 0
AreWithin task set = (place : ℕ) → Has set place → place < length task.defects

-- the pair detects the defect at this place at no observed output
abbrev pub IsNowhere : Task → List Trit → ℕ → Type 0
IsNowhere task pair place =
    (defect : ChipDefect) → IsDefectAt task place defect → IsAnswer (task.chip_of place) defect pair None

-- the first place of the set at or past this one, but for places of defects that the pair detects nowhere
abbrev pub IsNextToTry : Task → List Trit → PlaceSet → ℕ → Option ℕ → Type 0
IsNextToTry task pair set from None =
    (place : ℕ) → from ≤ place → Has set place → IsNowhere task pair place
IsNextToTry task pair set from (Some next) =
    (from ≤ next) × Has set next
    × ((place : ℕ) → from ≤ place → place < next → Has set place → IsNowhere task pair place)
