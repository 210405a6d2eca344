-- What a check asks of a pair.
use Rattle.std.specs.Prelude.{ℕ, ◌≡◌, List, Option, None, Some}
use Rattle.std.specs.List.{All}
use Rattle.ca_base.specs.First.{IsFirst}
use Rattle.ca_net.specs.declared.trit.Trit.{Trit}
use Rattle.ca_flat.specs.declared.chip_defect.ChipDefect.{ChipDefect}
use Rattle.ca_flat.specs.Chip.{Chip}
use Rattle.ca_flat.specs.Pair.{DetectsAt, IsShown}
use Rattle.ca_view.specs.Linked.{IsPlacedDefect, place_in}
use Rattle.ca_read_code.specs.Examined.{Examined}

-- the same, aimed at the defect
abbrev pub with_aim : Examined → ChipDefect → Examined
with_aim examined defect = record examined { aim = Some defect }

-- the chip stays, with the places of its instances
pub record KeepsChip (old new : Examined) : Type 0 where
  pub chip : new.chip ≡ old.chip
  pub places : new.places ≡ old.places

-- the chip and the bits stay
pub record KeepsPair (old new : Examined) : Type 0 where
  pub chip : KeepsChip old new
  pub pair : new.pair ≡ old.pair

-- the defect is one of the chip that can be aimed at
abbrev pub IsTestable : Examined → ChipDefect → Type 0
IsTestable examined defect = IsPlacedDefect examined.chip (place_in examined.places) defect

-- each of the defects is
abbrev pub AreTestable : Examined → List ChipDefect → Type 0
AreTestable examined defects = All (IsTestable examined) defects

-- the first observed output at which the defect is detected, if it is detected at one
abbrev pub IsDetectingOutput : Chip → ChipDefect → List Trit → Option ℕ → Type 0
IsDetectingOutput chip defect pair None = ¬ (IsShown chip defect pair)
IsDetectingOutput chip defect pair (Some output) = IsFirst (DetectsAt chip defect pair) chip.outputs output
