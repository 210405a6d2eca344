-- Words of the code beside those of `specs/Table.antt`. Private functions and proofs cite them.
use Rattle.std.specs.Prelude.{ℕ, ◌+◌, ◌≡◌, Bool, true, false, Option}
use Rattle.std.specs.Prelude.{List, length}
use Rattle.ca_flat.specs.declared.chip_defect.ChipDefect.{ChipDefect}
use Rattle.ca_credit.specs.declared.verdict.Verdict.{Verdict}
use Rattle.ca_credit.specs.Defects.{Task, IsDefectAt}
use Rattle.ca_credit.specs.Table.{verdict_at, IsAfterPair, credit_count}

-- how many a choice adds
abbrev pub one_if : Bool → ℕ
one_if true = 1
one_if false = 0

-- what a pair makes of the verdict of the defect at a place, where it may have been credited; the others stay
pub record CreditsOne (task : Task) (pair : List Bool) (number place : ℕ) (given : Bool)
    (old new : List (Option Verdict)) : Type 0 where
  pub as_many : length new ≡ length old
  pub here : (defect : ChipDefect) → IsDefectAt task place defect
      → IsAfterPair (task.chip_of place) pair number defect (verdict_at old place) (verdict_at new place)
  pub others : (other : ℕ) → ¬ (other ≡ place) → verdict_at new other ≡ verdict_at old other
  pub counted : credit_count new ≡ credit_count old + one_if given
