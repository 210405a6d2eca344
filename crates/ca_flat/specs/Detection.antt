-- Which pairs of a list detect a defect, and where.
use Rattle.std.specs.Prelude.{ℕ, ◌≡◌, Bool, List, length, map, All, IsSomeAnd, slice_get}
use Rattle.ca_base.specs.First.{IsFirst}
use Rattle.ca_net.specs.declared.trit.Trit.{Trit}
use Rattle.ca_cell.specs.Exposes.{IsExposable}
use Rattle.ca_flat.specs.declared.chip_defect.ChipDefect.{ChipDefect}
use Rattle.ca_flat.specs.Chip.{Chip, cell_at}
use Rattle.ca_flat.specs.Pair.{bit_count, DetectsAt, IsShown}
use Rattle.ca_flat.specs.Codes.{bit_trit}

-- the bits of a pair as values
abbrev pub trits_of : List Bool → List Trit
trits_of bits = map bit_trit bits

-- some pair of definite vectors exposes the defect in its cell
abbrev pub IsExposableIn : Chip → ChipDefect → Type 0
IsExposableIn chip defect = IsExposable (cell_at chip defect.instance) defect.defect

-- the pair detects the defect at some observed output
abbrev pub Detects : Chip → ChipDefect → List Bool → Type 0
Detects chip defect pair = IsShown chip defect (trits_of pair)

-- no pair of the list detects the defect
abbrev pub NoneDetects : Chip → ChipDefect → List (List Bool) → Type 0
NoneDetects chip defect pairs = All (λ pair. ¬ (Detects chip defect pair)) pairs

-- no definite pair at all detects the defect
abbrev pub IsUntestable : Chip → ChipDefect → Type 0
IsUntestable chip defect = (pair : List Bool) → length pair ≡ bit_count chip → ¬ (Detects chip defect pair)

-- it is the first observed output at which the pair detects the defect
abbrev pub IsFirstOutput : Chip → ChipDefect → ℕ → List Bool → Type 0
IsFirstOutput chip defect output pair =
    IsFirst (DetectsAt chip defect (trits_of pair)) chip.outputs output

-- the pair is the first of the list that detects the defect, and the output the first at which it does
pub record IsFirstDetection (chip : Chip) (defect : ChipDefect) (pairs : List (List Bool)) (pair output : ℕ)
    : Type 0 where
  pub first_pair : IsFirst (Detects chip defect) pairs pair
  pub first_output : IsSomeAnd (slice_get pairs pair) (IsFirstOutput chip defect output)
