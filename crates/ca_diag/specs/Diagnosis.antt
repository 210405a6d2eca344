-- What a defect predicts of a tester's log, and when the log contradicts it. Of code it knows nothing.
use Rattle.std.specs.Prelude.{ℕ, ◌≡◌, ◌<◌, ◌⊎◌, Bool, List, length, slice_get, slice_index, Some}
use Rattle.std.specs.List.{Contains}
use Rattle.ca_flat.specs.declared.chip_defect.ChipDefect.{ChipDefect}
use Rattle.ca_flat.specs.Chip.{Chip}
use Rattle.ca_flat.specs.Detection.{trits_of}
use Rattle.ca_flat.specs.Pair.{DetectsAt, EndsAlike}
use Rattle.ca_log.specs.declared.record.LogRecord.{LogRecord}

-- the defect predicts that the pair fails at this observed output, counted from 0: it is detected there
abbrev pub PredictsFail : Chip → ChipDefect → List Bool → ℕ → Type 0
PredictsFail chip defect pair output =
    DetectsAt chip defect (trits_of pair) (slice_index chip.outputs output)

-- it predicts that the pair passes there: both flat networks end with one value
abbrev pub PredictsPass : Chip → ChipDefect → List Bool → ℕ → Type 0
PredictsPass chip defect pair output =
    EndsAlike chip defect (trits_of pair) (slice_index chip.outputs output)

-- the place is of this listed pair and of an observed output
pub record IsPlaceOf (chip : Chip) (pairs : List (List Bool)) (here : LogRecord) (pair : List Bool) : Type 0
  where
    pub listed : slice_get pairs here.pair ≡ Some pair
    pub observed : here.output < length chip.outputs

-- the log has the place and the defect predicts a pass there, or it hasn't and the defect predicts a fail
abbrev pub IsAgainst : Chip → List LogRecord → ChipDefect → LogRecord → List Bool → Type 0
IsAgainst chip log defect here pair =
    (Contains log here × PredictsPass chip defect pair here.output)
    ⊎ (¬ (Contains log here) × PredictsFail chip defect pair here.output)

-- at some place of the listed pairs the log contradicts the defect
pub record IsContradicted (chip : Chip) (pairs : List (List Bool)) (log : List LogRecord)
    (defect : ChipDefect) : Type 0 where
  pub here : LogRecord
  pub pair : List Bool
  pub place : IsPlaceOf chip pairs here pair
  pub against : IsAgainst chip log defect here pair

-- the log contradicts the defect nowhere
abbrev pub IsCandidate : Chip → List (List Bool) → List LogRecord → ChipDefect → Type 0
IsCandidate chip pairs log defect = ¬ (IsContradicted chip pairs log defect)

-- the defect explains what was logged: it predicts a fail at this place
pub record Explains (chip : Chip) (pairs : List (List Bool)) (defect : ChipDefect) (here : LogRecord) : Type 0
  where
    pub pair : List Bool
    pub place : IsPlaceOf chip pairs here pair
    pub fails : PredictsFail chip defect pair here.output
