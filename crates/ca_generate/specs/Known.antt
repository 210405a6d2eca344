-- Defects of which is known, without a search, that no pair detects them.
use Rattle.std.specs.Prelude.{ℕ, ◌≡◌, Bool, true, false, List, slice_index_or}
use Rattle.ca_flat.specs.declared.chip_defect.ChipDefect.{ChipDefect}
use Rattle.ca_credit.specs.Defects.{Task, IsDefectAt}
use Rattle.ca_credit.specs.Detection.{IsUntestable}

-- no pair of the chip detects the defect at the place of the list
abbrev pub IsUntestableAt : Task → ℕ → Type 0
IsUntestableAt task place =
    (defect : ChipDefect) → IsDefectAt task place defect → IsUntestable (task.chip_of place) defect

-- so it is at each marked place; past the marks none is marked
abbrev pub AreUntestable : Task → List Bool → Type 0
AreUntestable task marks =
    (place : ℕ) → slice_index_or marks place false ≡ true → IsUntestableAt task place
