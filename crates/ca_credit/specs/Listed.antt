-- The pairs that were listed, and the defect at which each was aimed.
use Rattle.std.specs.Prelude.{ℕ, ◌≡◌, ◌<◌, ◌≤◌, Bool, List, length, slice_get, Some}
use Rattle.ca_base.specs.First.{IsFirst}
use Rattle.ca_net.specs.declared.trit.Trit.{Trit}
use Rattle.ca_flat.specs.declared.chip_defect.ChipDefect.{ChipDefect}
use Rattle.ca_flat.specs.declared.token.Token.{Token}
use Rattle.ca_flat.specs.Chip.{Chip}
use Rattle.ca_flat.specs.Pair.{IsShown}
use Rattle.ca_flat.specs.Codes.{branch_count, IsFront}
use Rattle.ca_credit.specs.Defects.{Task, IsDefectAt}
use Rattle.ca_code.specs.Filled.{filled}
use Rattle.ca_credit.specs.Detection.{Detects}

-- a search found the pair for the defect: a partial pair that is shown, and that is the next one of a front
-- with at most `budget` branches, gives it when its unset bits are filled with 0
pub record IsFoundFor (chip : Chip) (budget : ℕ) (defect : ChipDefect) (pair : List Bool) : Type 0 where
  pub partial : List Trit
  pub code : List Token
  pub front : IsFront chip defect code partial
  pub within : branch_count code ≤ budget
  pub shown : IsShown chip defect partial
  pub fills : pair ≡ filled partial

-- it was found for the defect at a place of the list
pub record IsFoundAt (task : Task) (place : ℕ) (pair : List Bool) : Type 0 where
  pub defect : ChipDefect
  pub is_defect : IsDefectAt task place defect
  pub found : IsFoundFor (task.chip_of place) task.budget defect pair

-- the pair with this number was found for the defect at the place `aim`, and is the first that detects it
pub record IsAim (task : Task) (pairs : List (List Bool)) (number aim : ℕ) : Type 0 where
  pub pair : List Bool
  pub is_pair : slice_get pairs number ≡ Some pair
  pub found_at : IsFoundAt task aim pair
  pub first : IsFirst (Detects (task.chip_of aim) found_at.defect) pairs number

-- each number is above all before it
abbrev pub IsAscending : List ℕ → Type 0
IsAscending numbers =
    (k l low high : ℕ) → k < l → slice_get numbers k ≡ Some low → slice_get numbers l ≡ Some high → low < high

-- one aim for each listed pair, in ascending order
pub record AreAims (task : Task) (pairs : List (List Bool)) (aims : List ℕ) : Type 0 where
  pub one_each : length aims ≡ length pairs
  pub ascending : IsAscending aims
  pub each : (number aim : ℕ) → slice_get aims number ≡ Some aim → IsAim task pairs number aim
