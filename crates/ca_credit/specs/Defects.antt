-- What is to be done with the defects of a chip.
use Rattle.std.specs.Prelude.{ℕ, ◌≡◌, ◌<◌, ◌↔◌, Some, None, List, length, slice_get}
use Rattle.std.specs.List.{Contains}
use Rattle.ca_net.specs.declared.trit.Trit.{Trit}
use Rattle.ca_flat.specs.declared.chip_defect.ChipDefect.{ChipDefect}
use Rattle.ca_flat.specs.Chip.{Chip}
use Rattle.ca_flat.specs.Pair.{NetEndsAt}
use Rattle.ca_flat.specs.Waves.{IsFlatChip}
pub use Rattle.ca_flat.specs.Detection.{IsExposableIn}

-- what is to be done: each of these defects is searched for with at most `budget` branches. That at a place
-- of the list is a defect of the chip, or of one that stands in for it: of `chip_of` the place
pub record Task : Type 0 where
  pub chip : Chip
  pub chip_of : ℕ → Chip
  pub defects : List ChipDefect
  pub budget : ℕ

-- the defect is at this place of the list
abbrev pub IsDefectAt : Task → ℕ → ChipDefect → Type 0
IsDefectAt task place defect = slice_get task.defects place ≡ Some defect

-- the other chip has the same inputs and observed outputs, and ends with the same at these without a defect
pub record StandsIn (chip other : Chip) : Type 0 where
  pub inputs : other.inputs ≡ chip.inputs
  pub outputs : other.outputs ≡ chip.outputs
  pub good : (pair : List Trit) (net : ℕ) (v : Trit) → Contains chip.outputs net
      → NetEndsAt chip None pair net v ↔ NetEndsAt other None pair net v

-- each defect is a target: one of a chip that stands in for the chip
abbrev pub AreTargets : Task → Type 0
AreTargets task = (place : ℕ) → place < length task.defects → StandsIn task.chip (task.chip_of place)

-- each defect is one of the chip itself
abbrev pub IsOfOneChip : Task → Type 0
IsOfOneChip task = task.chip_of ≡ (λ place. task.chip)

-- the chip's drivers have lower ranks, the defect is one of the chip's, and the good and the faulty flat
-- network are networks
pub record IsSearchable (chip : Chip) (defect : ChipDefect) : Type 0 where
  pub rank : ℕ → ℕ
  pub is_flat : IsFlatChip chip rank defect
