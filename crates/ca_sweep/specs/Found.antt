-- What is found of a defect: the first observed output at which a pair detects it.
use Rattle.std.specs.Prelude.{ℕ, ◌≡◌, ◌<◌, ◌≤◌, List, length, slice_get, slice_index, Option, None, Some}
use Rattle.ca_net.specs.declared.trit.Trit.{Trit}
use Rattle.ca_flat.specs.declared.chip_defect.ChipDefect.{ChipDefect}
use Rattle.ca_flat.specs.Chip.{Chip}
use Rattle.ca_flat.specs.Pair.{DetectsAt}
use Rattle.ca_places.specs.declared.place_set.PlaceSet.{PlaceSet}
use Rattle.ca_places.specs.PlaceSet.{Has}
use Rattle.ca_sweep.specs.declared.seen.Seen.{Seen}
use Rattle.ca_sweep.specs.declared.seen.Seen.TheVariants.{Undecided, Nowhere, At}

-- the pair detects the defect at this observed output, counted from 0
abbrev pub IsDetectedAt : Chip → ChipDefect → List Trit → ℕ → Type 0
IsDetectedAt chip defect pair output = DetectsAt chip defect pair (slice_index chip.outputs output)

-- it does at none before this one
abbrev pub IsUndetectedBefore : Chip → ChipDefect → List Trit → ℕ → Type 0
IsUndetectedBefore chip defect pair end =
    (output : ℕ) → output < end → ¬ (IsDetectedAt chip defect pair output)

-- it does at none, where there is a defect at this place of a list
abbrev pub IsUndetectedAt : Chip → List ChipDefect → List Trit → ℕ → Type 0
IsUndetectedAt chip defects pair place =
    (defect : ChipDefect) → slice_get defects place ≡ Some defect
    → IsUndetectedBefore chip defect pair (length chip.outputs)

-- the first place of the set at or past this one, but for places of defects that the pair detects nowhere
abbrev pub IsNextFound : Chip → List ChipDefect → List Trit → PlaceSet → ℕ → Option ℕ → Type 0
IsNextFound chip defects pair set from None =
    (place : ℕ) → from ≤ place → Has set place → IsUndetectedAt chip defects pair place
IsNextFound chip defects pair set from (Some next) =
    (from ≤ next) × Has set next
    × ((place : ℕ) → from ≤ place → place < next → Has set place → IsUndetectedAt chip defects pair place)

-- so says an answer that decides
abbrev pub IsFound : Chip → ChipDefect → List Trit → Seen → Type 0
IsFound chip defect pair Undecided = Unit {0}
IsFound chip defect pair Nowhere = IsUndetectedBefore chip defect pair (length chip.outputs)
IsFound chip defect pair (At output) =
    (output < length chip.outputs) × IsDetectedAt chip defect pair output
    × IsUndetectedBefore chip defect pair output
