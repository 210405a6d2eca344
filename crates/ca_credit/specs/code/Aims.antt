-- Words of the code beside those of `specs/Aims.antt`. Private functions and proofs cite them.
use Rattle.std.specs.Prelude.{ℕ, ◌+◌, ◌≤◌, ◌⊎◌, Bool, List}
use Rattle.std.specs.Prelude.{Option}
use Rattle.ca_credit.specs.declared.verdict.Verdict.{Verdict}
use Rattle.ca_credit.specs.Defects.{Task}
use Rattle.ca_credit.specs.Aims.{HaveAmong, IsSuspectAt}

-- one was aimed at the defect at this place at most once, and only where it is suspect
abbrev pub AimsAtSuspect : Task → List Bool → List (Option Verdict) → ℕ → ℕ → ℕ → Type 0
AimsAtSuspect task pair table place before after =
    (after ≤ before) ⊎ (IsSuspectAt task pair table place × (after ≤ before + 1))

-- one aimed at most as often as there are suspect defects among the first `count`
pub record AimsUpTo (task : Task) (pair : List Bool) (count : ℕ) (table : List (Option Verdict))
    (before after : ℕ) : Type 0 where
  pub suspects : ℕ
  pub are : HaveAmong (IsSuspectAt task pair table) count suspects
  pub few : after ≤ before + suspects
