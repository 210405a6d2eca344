-- Marks of defects of which is known that no pair detects them.
use Rattle.std.specs.Prelude.{ℕ, ◌≡◌, Bool, true, false, List, slice_index_or, slice_get, Some}
use Rattle.ca_flat.specs.declared.chip_defect.ChipDefect.{ChipDefect}
use Rattle.ca_flat.specs.Chip.{Chip}
use Rattle.ca_flat.specs.Detection.{IsUntestable}

-- no pair of the chip detects a listed defect whose place is marked
abbrev pub AreMarked : Chip → List ChipDefect → List Bool → Type 0
AreMarked chip defects marks =
    (place : ℕ) (defect : ChipDefect) → slice_get defects place ≡ Some defect
    → slice_index_or marks place false ≡ true → IsUntestable chip defect
