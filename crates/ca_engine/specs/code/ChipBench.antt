-- Words of the code beside those of `specs/ChipBench.antt`. Private functions and proofs cite them.
use Rattle.std.specs.Prelude.{ℕ, ◌^◌, ◌≡◌, ◌<◌, List, length, Option, None, Some}
use Rattle.std.specs.List.{All}
use Rattle.ca_net.specs.Circuit.{IsWellFormed}
use Rattle.ca_flat.specs.declared.chip_defect.ChipDefect.{ChipDefect}
use Rattle.ca_flat.specs.Chip.{Chip, IsChip, IsDefectIn, IsChipDefect}
use Rattle.ca_flat.specs.Flat.{flat}
use Rattle.ca_view.specs.Linked.{IsPlacedDefect, place_in}
use Rattle.ca_sweep.specs.Spans.{Spanned}

-- The chip's flat networks are networks, the listed defects are its own, may be aimed at and are fewer than
-- 2^32, the nets are those of the observed outputs, the rows are the chip's, and what is aimed at is a defect
-- of it.
pub record IsChipBench (chip : Chip) (places : List ℕ) (aim : Option ChipDefect) (rows_chip : Chip)
    (defects : Spanned) (outputs : List ℕ) (defect : Option ChipDefect) : Type 0 where
  pub rank : ℕ → ℕ
  pub chip_is : IsChip chip rank
  pub good_is : IsWellFormed (flat chip None)
  pub faulty_are : (one : ChipDefect) → IsDefectIn chip one → IsWellFormed (flat chip (Some one))
  pub spans_of : defects.chip ≡ chip
  pub placed : All (IsPlacedDefect chip (place_in places)) defects.list
  pub few_defects : length defects.list < 2 ^ 32
  pub outputs_are : outputs ≡ chip.outputs
  pub few : length outputs < 2 ^ 32
  pub rows_are : rows_chip ≡ chip
  pub aim_is : aim ≡ defect
  pub aimed : IsChipDefect chip defect
