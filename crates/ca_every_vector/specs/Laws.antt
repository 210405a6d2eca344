-- The law of possible rows.
use Rattle.std.specs.Prelude.{ℕ}
use Rattle.ca_cell.specs.declared.row.Row.{Row}
use Rattle.ca_cell.specs.Exposes.{IsExposingRow}
use Rattle.ca_flat.specs.declared.chip_defect.ChipDefect.{ChipDefect}
use Rattle.ca_flat.specs.Chip.{Chip, cell_at}
use Rattle.ca_flat.specs.Waves.{IsFlatChip}
use Rattle.ca_flat.specs.Detection.{IsUntestable}
use Rattle.ca_every_vector.specs.Possible.{Has, ArePossible}

-- no row that exposes the defect has its first vector in the one mask and its last in the other
abbrev pub NoneExposes : Chip → ChipDefect → ℕ → ℕ → Type 0
NoneExposes chip defect firsts lasts =
    (row : Row) → IsExposingRow (cell_at chip defect.instance) defect.defect row
    → Has firsts row.first → Has lasts row.last → ⊥

-- a defect that no possible row exposes is one that no pair of the chip detects
abbrev pub ImpossibleIsUntestable : Type 0
ImpossibleIsUntestable =
    (chip : Chip) (rank : ℕ → ℕ) (defect : ChipDefect) (firsts lasts : ℕ)
    → IsFlatChip chip rank defect → ArePossible chip defect.instance firsts lasts
    → NoneExposes chip defect firsts lasts → IsUntestable chip defect
