-- The law that too many pairs need more defects that can be exposed.
use Rattle.std.specs.Prelude.{ℕ, ◌<◌, Bool, List, length}
use Rattle.std.specs.List.{Contains}
use Rattle.ca_flat.specs.declared.chip_defect.ChipDefect.{ChipDefect}
use Rattle.ca_credit.specs.declared.limit.TheConstants.{MOST_PAIRS}
use Rattle.ca_credit.specs.Defects.{Task, IsDefectAt, IsExposableIn, IsSearchable}
use Rattle.ca_generate.specs.declared.fault.GenerateFault.TheVariants.{TooManyPairs}
use Rattle.ca_generate.specs.GenerateFault.{IsCause}

-- the list has the place of each defect of the task that some pair of vectors exposes
abbrev pub HasExposable : Task → List ℕ → Type 0
HasExposable task places =
    (place : ℕ) (defect : ChipDefect) → IsDefectAt task place defect
    → IsExposableIn (task.chip_of place) defect → Contains places place

-- where one pair more was found than may be listed, for defects whose flat networks are networks, more of
-- these can be exposed than pairs may be listed: each list that has the places of all that can is longer
abbrev pub TooManyNeedsExposable : Type 0
TooManyNeedsExposable =
    (task : Task) (pairs : List (List Bool)) (aims places : List ℕ)
    → ((place : ℕ) (defect : ChipDefect) → IsDefectAt task place defect
    → IsSearchable (task.chip_of place) defect)
    → HasExposable task places → IsCause task (TooManyPairs pairs aims) → MOST_PAIRS < length places
