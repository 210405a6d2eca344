-- How plain two-frame values relate to waves: where a wave is 0 or 1, so is the plain value.
use Rattle.std.specs.Prelude.{ℕ, ◌<◌, List, length, None}
use Rattle.ca_net.specs.declared.trit.Trit.{Trit}
use Rattle.ca_net.specs.declared.wave.Wave.{Wave}
use Rattle.ca_net.specs.Trit.{IsBelow}
use Rattle.ca_net.specs.State.{value_at}
use Rattle.ca_net.specs.Circuit.{IsWellFormed}
use Rattle.ca_flat.specs.declared.chip_defect.ChipDefect.{ChipDefect}
use Rattle.ca_flat.specs.Chip.{Chip, IsChip, IsDefectIn}
use Rattle.ca_flat.specs.Flat.{flat}
use Rattle.ca_flat.specs.Waves.{FlatWaves, wave_of}
use Rattle.ca_flat.specs.RuleOut.{RowsRuleOut}
use Rattle.ca_flat.specs.TwoFrame.{AreTwoFrame, IsSuspect}

-- the first and the last value of the wave are at or below the plain ones
pub record IsBelowPlain (wave : Wave) (first last : Trit) : Type 0 where
  pub first_below : IsBelow wave.first first
  pub last_below : IsBelow wave.last last

-- the wave of each net in the good flat network is at or below the net's plain values
abbrev pub WavesAreBelowPlain : Type 0
WavesAreBelowPlain =
    (chip : Chip) (rank : ℕ → ℕ) (pair firsts lasts : List Trit) (good : FlatWaves chip None pair) (net : ℕ)
    → IsChip chip rank → IsWellFormed (flat chip None) → AreTwoFrame chip pair firsts lasts
    → net < length chip.nets
    → IsBelowPlain (wave_of good net) (value_at firsts net) (value_at lasts net)

-- a pair that is suspect for a defect by the plain values is one that the waves allow: some exposing row is
-- over the waves of its instance's pins too
abbrev pub SuspectIsAllowed : Type 0
SuspectIsAllowed =
    (chip : Chip) (rank : ℕ → ℕ) (defect : ChipDefect) (pair firsts lasts : List Trit)
    (good : FlatWaves chip None pair) → IsChip chip rank → IsWellFormed (flat chip None)
    → IsDefectIn chip defect → AreTwoFrame chip pair firsts lasts → IsSuspect chip defect firsts lasts
    → ¬ (RowsRuleOut chip defect pair good)
