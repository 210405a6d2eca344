-- What is promised of grades.
use Rattle.std.specs.Prelude.{ℕ, ◌≡◌, Bool, List, length, slice_get, Some}
use Rattle.ca_flat.specs.declared.chip_defect.ChipDefect.{ChipDefect}
use Rattle.ca_flat.specs.Chip.{Chip}
use Rattle.ca_credit.specs.Defects.{Task, IsDefectAt, IsExposableIn}
use Rattle.ca_credit.specs.Detection.{IsFirstDetection, NoneDetects}
use Rattle.ca_grade.specs.declared.grade.Grade.{Grade}
use Rattle.ca_grade.specs.declared.grade.Grade.TheVariants.{Credited, Unexposable, Uncredited}

-- some pair of vectors exposes the defect in its cell, and this is the first listed pair that detects it, and
-- the first output at which it does
pub record IsCredited (chip : Chip) (pairs : List (List Bool)) (defect : ChipDefect) (pair output : ℕ)
    : Type 0 where
  pub exposable : IsExposableIn chip defect
  pub first : IsFirstDetection chip defect pairs pair output

-- some pair of vectors exposes it, and no listed pair detects it
pub record IsUncredited (chip : Chip) (pairs : List (List Bool)) (defect : ChipDefect) : Type 0 where
  pub exposable : IsExposableIn chip defect
  pub undetected : NoneDetects chip defect pairs

-- what a grade says of a defect: unexposable, where no pair of vectors exposes it in its cell; else credited
-- with the first listed pair that detects it, or uncredited. No two of these can be so
abbrev pub IsGrade : Chip → List (List Bool) → ChipDefect → Grade → Type 0
IsGrade chip pairs defect (Credited pair output) = IsCredited chip pairs defect pair output
IsGrade chip pairs defect Unexposable = ¬ (IsExposableIn chip defect)
IsGrade chip pairs defect Uncredited = IsUncredited chip pairs defect

-- one grade for each defect of the list, in order, of which each says what is so
pub record AreGraded (task : Task) (pairs : List (List Bool)) (grades : List Grade) : Type 0 where
  pub one_each : length grades ≡ length task.defects
  pub each : (place : ℕ) (defect : ChipDefect) (grade : Grade) → IsDefectAt task place defect
      → slice_get grades place ≡ Some grade → IsGrade (task.chip_of place) pairs defect grade
