-- The table of credits while pairs are graded.
use Rattle.std.specs.Prelude.{ℕ, ◌≡◌, ◌<◌, ◌≤◌, Bool, Option, Some, None, List, [], length, take}
use Rattle.ca_flat.specs.declared.chip_defect.ChipDefect.{ChipDefect}
use Rattle.ca_flat.specs.Chip.{Chip}
use Rattle.ca_credit.specs.declared.verdict.Verdict.{Verdict}
use Rattle.ca_credit.specs.declared.verdict.Verdict.TheVariants as verdict
use Rattle.ca_credit.specs.Defects.{Task, IsDefectAt, IsExposableIn}
use Rattle.ca_credit.specs.Table.{verdict_at}
use Rattle.ca_grade.specs.declared.grade.Grade.{Grade}
use Rattle.ca_grade.specs.declared.grade.Grade.TheVariants.{Credited, Unexposable, Uncredited}
use Rattle.ca_grade.specs.Graded.{IsCredited, IsUncredited}

-- the grade of a defect with this verdict; without credit there is none but that no pair exposes it
abbrev pub grade_of : Option Verdict → Grade
grade_of None = Uncredited
grade_of (Some (verdict.Credited pair output)) = Credited pair output
grade_of (Some verdict.Unexposable) = Unexposable
grade_of (Some verdict.Untestable) = Uncredited
grade_of (Some (verdict.Aborted code)) = Uncredited

-- what the verdict says after the first `count` pairs
abbrev pub IsVerdictAfter : Chip → List (List Bool) → ℕ → ChipDefect → Option Verdict → Type 0
IsVerdictAfter chip pairs count defect None = IsUncredited chip (take count pairs) defect
IsVerdictAfter chip pairs count defect (Some (verdict.Credited pair output)) =
    IsCredited chip pairs defect pair output
IsVerdictAfter chip pairs count defect (Some verdict.Unexposable) = ¬ (IsExposableIn chip defect)
IsVerdictAfter chip pairs count defect (Some verdict.Untestable) = ⊥
IsVerdictAfter chip pairs count defect (Some (verdict.Aborted code)) = ⊥

-- each verdict says what is so after the first `count` pairs
pub record AreVerdictsAfter (task : Task) (pairs : List (List Bool)) (count : ℕ)
    (table : List (Option Verdict)) : Type 0 where
  pub as_many : length table ≡ length task.defects
  pub each : (place : ℕ) (defect : ChipDefect) → IsDefectAt task place defect
      → IsVerdictAfter (task.chip_of place) pairs count defect (verdict_at table place)

-- of the first `marked` defects those that can't be exposed are marked, and nothing else is
pub record AreMarkedUpTo (task : Task) (marked : ℕ) (table : List (Option Verdict)) : Type 0 where
  pub as_many : length table ≡ length task.defects
  pub each : (place : ℕ) (defect : ChipDefect) → place < marked → IsDefectAt task place defect
      → IsVerdictAfter (task.chip_of place) [] 0 defect (verdict_at table place)
  pub others : (place : ℕ) → marked ≤ place → verdict_at table place ≡ None
