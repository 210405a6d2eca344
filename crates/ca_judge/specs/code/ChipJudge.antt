-- Words of the code beside those of `specs/ChipJudge.antt`. Private functions and proofs cite them.
use Rattle.std.specs.Prelude.{ℕ, ◌≡◌, List, length, Option, None, Some}
use Rattle.ca_flat.specs.declared.chip_defect.ChipDefect.{ChipDefect}
use Rattle.ca_flat.specs.Chip.{Chip, IsChip, IsDefectIn}
use Rattle.ca_view.specs.NetLists.{NetLists, AreNetsOf}
use Rattle.ca_guide.specs.Guide.{Guided, HasRoomFor, IsSupport}
use Rattle.ca_judge.specs.code.Outputs.{AreObservedBelow}
use Rattle.ca_judge.specs.ChipJudge.{CanBeJudged}

-- a defect that is aimed at is one of the chip, and the guide has its support
abbrev pub IsGuidedTo : Chip → Guided → Option ChipDefect → Type 0
IsGuidedTo chip guided None = Unit {0}
IsGuidedTo chip guided (Some defect) = IsDefectIn chip defect × IsSupport chip defect guided.support

-- What the fields of a judge keep: the simulator's chip, `core`, is that of the view, `chip`, whose lists
-- these are.
pub record IsChipJudge (core : Chip) (aim : Option ChipDefect) (chip : Chip) (lists : NetLists)
    (rows_chip : Chip)
    (guided : Guided) (outputs : List ℕ) (defect : Option ChipDefect) : Type 0 where
  pub judged : CanBeJudged core
  pub same : chip ≡ core
  pub nets : AreNetsOf core lists
  pub rank : ℕ → ℕ
  pub chip_is : IsChip core rank
  pub rows_are : rows_chip ≡ core
  pub room : HasRoomFor lists guided
  pub outputs_are : AreObservedBelow lists.observed (length lists.onward) outputs
  pub aim_is : aim ≡ defect
  pub guided_to : IsGuidedTo core guided defect
