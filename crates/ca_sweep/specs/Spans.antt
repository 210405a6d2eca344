-- Spans of a list of defects: places of defects of one instance, one after another.
use Rattle.std.specs.Prelude.{ℕ, ◌+◌, ◌≡◌, ◌<◌, ◌≤◌, List, length, slice_get, Some}
use Rattle.ca_cell.specs.declared.raw.RawCell.{RawCell}
use Rattle.ca_cell.specs.List.{defects_of}
use Rattle.ca_flat.specs.Chip.{Chip}
use Rattle.ca_flat.specs.declared.chip_defect.ChipDefect.{ChipDefect}

-- a chip, and a list of defects of its instances
pub record Spanned : Type 0 where
  pub chip : Chip
  pub list : List ChipDefect

-- the defects of a list at these places, up to an end within it, are of this instance
pub record AreOfInstance (defects : List ChipDefect) (from end instance : ℕ) : Type 0 where
  pub within : end ≤ length defects
  pub each : (place : ℕ) (defect : ChipDefect) → from ≤ place → place < end
      → slice_get defects place ≡ Some defect → defect.instance ≡ instance

-- they are the first ones of the cell, in their order
abbrev pub AreOfCell : RawCell → List ChipDefect → ℕ → ℕ → Type 0
AreOfCell raw defects from end = (k : ℕ) (defect : ChipDefect) → from + k < end
    → slice_get defects (from + k) ≡ Some defect → slice_get (defects_of raw) k ≡ Some defect.defect
