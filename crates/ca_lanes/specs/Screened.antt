-- What the bit of a lane says of its pair.
use Rattle.std.specs.Prelude.{ℕ, ◌+◌, ◌^◌, ◌≡◌, ◌<◌, ◌≤◌, ◌↔◌, Bool, true, List, length, take, None}
use Rattle.std.specs.List.{All}
use Rattle.ca_net.specs.declared.trit.Trit.{Trit}
use Rattle.ca_net.specs.State.{value_at}
use Rattle.ca_net.specs.Circuit.{IsWellFormed}
use Rattle.ca_cell.specs.declared.rule.TheConstants.{MOST_INPUTS}
use Rattle.ca_cell.specs.declared.row.Row.{Row}
use Rattle.ca_flat.specs.declared.chip_defect.ChipDefect.{ChipDefect}
use Rattle.ca_flat.specs.Chip.{Chip, instance_at, inputs_at, outputs_at, count_of, IsChip}
use Rattle.ca_flat.specs.Flat.{flat}
use Rattle.ca_flat.specs.Pair.{DetectsAt}
use Rattle.ca_flat.specs.Rows.{ListsExposingRows}
use Rattle.ca_flat.specs.PlainWaves.{IsBelowPlain}
use Rattle.ca_flat.specs.RuleOut.{RowsRuleOut}
use Rattle.ca_flat.specs.TwoFrame.{IsSuspect, IsNeverOpposite}
use Rattle.ca_flat.specs.Waves.{FlatWaves, wave_of, IsFlatChip}
use Rattle.ca_lanes.specs.Choice.{Choice}
use Rattle.ca_lanes.specs.Loaded.{trits_for, IsLoaded}

-- the row is of a cell with `count` vectors
pub record IsRowIn (count : ℕ) (row : Row) : Type 0 where
  pub first : row.first < count
  pub last : row.last < count

-- the input pins are few and on the first `nets` nets, and the rows are of a cell with as many input pins
pub record IsScreenable (nets : ℕ) (pins : List ℕ) (rows : List Row) : Type 0 where
  pub few : length pins ≤ MOST_INPUTS
  pub within : All (λ net. net < nets) pins
  pub rows_within : All (IsRowIn (2 ^ length pins)) rows

-- the input pins and the rows are those of a defect of the chip
pub record AreOfDefect (chip : Chip) (defect : ChipDefect) (pins : List ℕ) (rows : List Row) : Type 0 where
  pub known : defect.instance < count_of chip
  pub count : length (instance_at chip defect.instance).pins
      ≡ inputs_at chip defect.instance + outputs_at chip defect.instance
  pub pins_are : pins ≡ take (inputs_at chip defect.instance) (instance_at chip defect.instance).pins
  pub lists : ListsExposingRows chip defect rows

-- the pins and rows of each defect of a chip are such
abbrev pub DefectsAreScreenable : Type 0
DefectsAreScreenable =
    (chip : Chip) (rank : ℕ → ℕ) (defect : ChipDefect) (pins : List ℕ) (rows : List Row)
    → IsChip chip rank → AreOfDefect chip defect pins rows → IsScreenable (length chip.nets) pins rows

-- the bit is set exactly where the pair of the lane is suspect, for each chip and defect that the pins and
-- rows may be of
abbrev pub SaysSuspect : List ℕ → List Row → List Choice → List Choice → Bool → Type 0
SaysSuspect pins rows firsts lasts bit =
    (chip : Chip) (rank : ℕ → ℕ) (pair : List Trit) (defect : ChipDefect) → IsChip chip rank
    → AreOfDefect chip defect pins rows → IsLoaded chip pair firsts lasts
    → (bit ≡ true) ↔ IsSuspect chip defect (trits_for firsts) (trits_for lasts)

-- a bit that isn't set says that the pair doesn't detect the defect
abbrev pub ClearBitMeansNoDetection : Type 0
ClearBitMeansNoDetection =
    (chip : Chip) (rank : ℕ → ℕ) (pair : List Trit) (defect : ChipDefect) (pins : List ℕ) (rows : List Row)
    (firsts lasts : List Choice) (bit : Bool) (net : ℕ) → IsFlatChip chip rank defect
    → AreOfDefect chip defect pins rows → IsLoaded chip pair firsts lasts
    → SaysSuspect pins rows firsts lasts bit → net < length chip.nets → (bit ≡ true → ⊥)
    → DetectsAt chip defect pair net → ⊥

-- no value that is read in a lane is the opposite of the limit at the same net
abbrev pub PlainInLaneIsNeverOpposite : Type 0
PlainInLaneIsNeverOpposite =
    (chip : Chip) (rank : ℕ → ℕ) (pair : List Trit) (firsts lasts : List Choice)
    (good : FlatWaves chip None pair) (net : ℕ) → IsChip chip rank → IsWellFormed (flat chip None)
    → IsLoaded chip pair firsts lasts → net < length chip.nets
    → IsNeverOpposite (value_at (trits_for firsts) net) (value_at (trits_for lasts) net)
    (wave_of good net).first (wave_of good net).last

-- the wave of each net is at or below the values that are read in a lane
abbrev pub WavesAreBelowLane : Type 0
WavesAreBelowLane =
    (chip : Chip) (rank : ℕ → ℕ) (pair : List Trit) (firsts lasts : List Choice)
    (good : FlatWaves chip None pair) (net : ℕ) → IsChip chip rank → IsWellFormed (flat chip None)
    → IsLoaded chip pair firsts lasts → net < length chip.nets
    → IsBelowPlain (wave_of good net) (value_at (trits_for firsts) net) (value_at (trits_for lasts) net)

-- a bit that is set says that the waves don't rule the pair out by the exposing rows
abbrev pub SetBitIsAllowed : Type 0
SetBitIsAllowed =
    (chip : Chip) (rank : ℕ → ℕ) (pair : List Trit) (defect : ChipDefect) (pins : List ℕ) (rows : List Row)
    (firsts lasts : List Choice) (bit : Bool) (good : FlatWaves chip None pair) → IsFlatChip chip rank defect
    → AreOfDefect chip defect pins rows → IsLoaded chip pair firsts lasts
    → SaysSuspect pins rows firsts lasts bit → bit ≡ true → ¬ (RowsRuleOut chip defect pair good)
