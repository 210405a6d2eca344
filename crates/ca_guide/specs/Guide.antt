-- What the guide answers.
use Rattle.std.specs.Prelude.{ℕ, ◌+◌, ◌≡◌, ◌↔◌, Bool, List, length, Option, None, Some, slice_get}
use Rattle.std.specs.List.{Contains}
use Rattle.ca_net.specs.declared.trit.Trit.{Trit}
use Rattle.ca_flat.specs.declared.chip_defect.ChipDefect.{ChipDefect}
use Rattle.ca_flat.specs.Chip.{Chip}
use Rattle.ca_flat.specs.Waves.{FlatWaves}
use Rattle.ca_flat.specs.Chain.{IsSupportBit}
use Rattle.ca_flat.specs.CheckedCode.{IsPlain, IsCheckedBranch}
use Rattle.ca_guide.specs.declared.guide.Step.{Step}
use Rattle.ca_guide.specs.declared.guide.Step.TheVariants.{Branch, RuledOut}
use Rattle.ca_guide.specs.declared.guide.Attempt.{Attempt}
use Rattle.ca_guide.specs.declared.guide.Attempt.TheVariants.{Set, TakeBack, GiveUp}
use Rattle.ca_view.specs.NetLists.{NetLists}
use Rattle.ca_guide.specs.Seen.{Seen, pair_of, ShowsWaves}

-- the numbers of nets and of bits for which there is room, and the support of the defect that is aimed at
pub record Guided : Type 0 where
  pub nets : ℕ
  pub bits : ℕ
  pub support : List ℕ

-- there is room for the chip
pub record HasRoomFor (lists : NetLists) (guided : Guided) : Type 0 where
  pub nets : guided.nets ≡ length lists.onward
  pub bits : guided.bits ≡ length lists.inputs + length lists.inputs

-- the bits are exactly those of the support
abbrev pub IsSupport : Chip → ChipDefect → List ℕ → Type 0
IsSupport chip defect support = (bit : ℕ) → Contains support bit ↔ IsSupportBit chip defect bit

-- what is seen are the limits of the partial pair, without the defect and with it
pub record ShowsPair (chip : Chip) (defect : ChipDefect) (seen : Seen) : Type 0 where
  pub good : FlatWaves chip None (pair_of seen)
  pub faulty : FlatWaves chip (Some defect) (pair_of seen)
  pub are : ShowsWaves chip defect seen good faulty

-- ruled out exactly where the pair is plainly so, and else a branch on an unset bit of the support
abbrev pub IsStep : Chip → ChipDefect → List Trit → Step → Type 0
IsStep chip defect pair (Branch bit first) = IsCheckedBranch chip defect pair bit
IsStep chip defect pair RuledOut = IsPlain chip defect pair

-- an unset bit of the support
pub record IsUnsetIn (support : List ℕ) (bits : List (Option Bool)) (bit : ℕ) : Type 0 where
  pub listed : Contains support bit
  pub unset : slice_get bits bit ≡ Some None

-- a bit that is set is an unset one of the support
abbrev pub IsAttempt : List ℕ → List (Option Bool) → Attempt → Type 0
IsAttempt support bits (Set bit value) = IsUnsetIn support bits bit
IsAttempt support bits TakeBack = Unit {0}
IsAttempt support bits GiveUp = Unit {0}
