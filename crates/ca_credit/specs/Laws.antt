-- Laws of verdicts.
use Rattle.std.specs.Prelude.{ℕ, ◌+◌, ◌^◌, ◌≤◌, Bool, List}
use Rattle.ca_net.specs.declared.trit.Trit.{Trit}
use Rattle.ca_flat.specs.declared.chip_defect.ChipDefect.{ChipDefect}
use Rattle.ca_flat.specs.declared.token.Token.{Token}
use Rattle.ca_flat.specs.Chip.{Chip}
use Rattle.ca_flat.specs.Pair.{bit_count}
use Rattle.ca_flat.specs.TwoFrame.{AreTwoFrame, IsSuspect}
use Rattle.ca_credit.specs.declared.verdict.Verdict.{Verdict}
use Rattle.ca_credit.specs.declared.verdict.Verdict.TheVariants.{Aborted}
use Rattle.ca_credit.specs.Defects.{Task, IsExposableIn, IsSearchable}
use Rattle.ca_credit.specs.Detection.{Detects, IsAllowedByRows}
use Rattle.ca_credit.specs.Good.{HasVerdict, IsAmple, IsGood}

-- a defect that no pair of vectors exposes in its cell is detected by no pair
abbrev pub UnexposableIsUndetected : Type 0
UnexposableIsUndetected =
    (chip : Chip) (defect : ChipDefect) (pair : List Bool) → IsSearchable chip defect
    → ¬ (IsExposableIn chip defect) → ¬ (Detects chip defect pair)

-- where the budget is enough for every search, none is aborted
abbrev pub AmpleIsNeverAborted : Type 0
AmpleIsNeverAborted =
    (task : Task) (pairs : List (List Bool)) (aims : List ℕ) (verdicts : List Verdict) (place : ℕ)
    (defect : ChipDefect) (code : List Token) → IsGood task pairs aims verdicts → IsAmple task
    → ¬ (HasVerdict task verdicts place defect (Aborted code))

-- for m pattern bits a budget of at least 2^m - 1 is always enough
abbrev pub PatternBitsAreNeverAborted : Type 0
PatternBitsAreNeverAborted =
    (task : Task) (pairs : List (List Bool)) (aims : List ℕ) (verdicts : List Verdict) (place : ℕ)
    (defect : ChipDefect) (code : List Token) → IsGood task pairs aims verdicts
    → 2 ^ bit_count (task.chip_of place) ≤ task.budget + 1
    → ¬ (HasVerdict task verdicts place defect (Aborted code))

-- a pair that is suspect for a defect by its plain two-frame values is one that the waves allow
abbrev pub SuspectIsAllowedByRows : Type 0
SuspectIsAllowedByRows =
    (chip : Chip) (defect : ChipDefect) (pair firsts lasts : List Trit) → IsSearchable chip defect
    → AreTwoFrame chip pair firsts lasts → IsSuspect chip defect firsts lasts
    → IsAllowedByRows chip defect pair
