-- Which pairs detect a defect, and where.
use Rattle.std.specs.Prelude.{ℕ, ◌≡◌, ◌≢◌, ◌<◌, ◌↔◌, List, length, slice_index, Option, None, Some}
use Rattle.ca_net.specs.declared.trit.Trit.{Trit}
use Rattle.ca_net.specs.declared.trit.Trit.TheVariants.{X}
use Rattle.ca_flat.specs.declared.chip_defect.ChipDefect.{ChipDefect}
use Rattle.ca_flat.specs.Chip.{Chip}
use Rattle.ca_flat.specs.Pair.{NetEndsAt, DetectsAt}
use Rattle.ca_flat.specs.RuleOut.{RowsRuleOut}
use Rattle.ca_flat.specs.Waves.{FlatWaves}
pub use Rattle.ca_flat.specs.Detection.{Detects, NoneDetects, IsUntestable, IsFirstOutput, IsFirstDetection}
use Rattle.ca_credit.specs.declared.by_lasts.ByLasts.{ByLasts}
use Rattle.ca_credit.specs.declared.by_lasts.ByLasts.TheVariants.{Undecided, Nowhere, At}

-- the value is v in {0, 1} exactly where every run of the flat network ends with v at the net; so it is X
-- where there is no such v
abbrev pub IsNetEnd : Chip → Option ChipDefect → List Trit → ℕ → Trit → Type 0
IsNetEnd chip given pair net value = (v : Trit) → ((v ≢ X) × (value ≡ v)) ↔ NetEndsAt chip given pair net v

-- the pair detects both defects at the same observed outputs, counted from 0
abbrev pub AreDetectedAlike : Chip → ChipDefect → ChipDefect → List Trit → Type 0
AreDetectedAlike chip one other pair =
    (output : ℕ) → output < length chip.outputs
    → DetectsAt chip one pair (slice_index chip.outputs output)
    ↔ DetectsAt chip other pair (slice_index chip.outputs output)

-- what the good chip may have at the pins of the defect's instance leaves some exposing row possible
abbrev pub IsAllowedByRows : Chip → ChipDefect → List Trit → Type 0
IsAllowedByRows chip defect pair = (good : FlatWaves chip None pair) → ¬ (RowsRuleOut chip defect pair good)

-- the defect is detected at this observed output, and at none before it
pub record IsFirstAt (chip : Chip) (defect : ChipDefect) (pair : List Trit) (output : ℕ) : Type 0 where
  pub within : output < length chip.outputs
  pub here : DetectsAt chip defect pair (slice_index chip.outputs output)
  pub none_before : (before : ℕ) → before < output
      → ¬ (DetectsAt chip defect pair (slice_index chip.outputs before))

-- the first observed output at which the defect is detected, if there is one
abbrev pub IsAnswer : Chip → ChipDefect → List Trit → Option ℕ → Type 0
IsAnswer chip defect pair None = (output : ℕ) → output < length chip.outputs
    → ¬ (DetectsAt chip defect pair (slice_index chip.outputs output))
IsAnswer chip defect pair (Some output) = IsFirstAt chip defect pair output

-- so say last values alone, where they say it
abbrev pub IsDecided : Chip → ChipDefect → List Trit → ByLasts → Type 0
IsDecided chip defect pair Undecided = Unit {0}
IsDecided chip defect pair Nowhere = IsAnswer chip defect pair None
IsDecided chip defect pair (At output) = IsAnswer chip defect pair (Some output)
