-- What is promised of pairs, aims and verdicts.
use Rattle.std.specs.Prelude.{ℕ, ◌+◌, ◌^◌, ◌≡◌, ◌<◌, ◌≤◌, Bool, List, length, slice_get, Some}
use Rattle.std.specs.List.{Contains}
use Rattle.ca_flat.specs.declared.chip_defect.ChipDefect.{ChipDefect}
use Rattle.ca_flat.specs.declared.token.Token.{Token}
use Rattle.ca_flat.specs.Chip.{Chip}
use Rattle.ca_flat.specs.Chain.{IsSupportBit}
use Rattle.ca_flat.specs.Codes.{IsSpentBy, IsSpentCode}
use Rattle.ca_code.specs.SearchRules.{search_rules}
use Rattle.ca_credit.specs.declared.limit.TheConstants.{MOST_PAIRS}
use Rattle.ca_credit.specs.declared.verdict.Verdict.{Verdict}
use Rattle.ca_credit.specs.declared.verdict.Verdict.TheVariants.{Credited, Unexposable, Untestable, Aborted}
use Rattle.ca_credit.specs.Defects.{Task, IsDefectAt, IsExposableIn}
use Rattle.ca_credit.specs.Detection.{IsFirstDetection, IsUntestable, NoneDetects}
use Rattle.ca_credit.specs.Listed.{AreAims}

-- the defect at this place of the list has the verdict
pub record HasVerdict (task : Task) (verdicts : List Verdict) (place : ℕ) (defect : ChipDefect)
    (verdict : Verdict) : Type 0 where
  pub is_defect : IsDefectAt task place defect
  pub is_verdict : slice_get verdicts place ≡ Some verdict

-- `count` bits are all the support of the defect
pub record HasSupport (chip : Chip) (defect : ChipDefect) (count : ℕ) : Type 0 where
  pub bits : List ℕ
  pub counted : length bits ≡ count
  pub all : (bit : ℕ) → IsSupportBit chip defect bit → Contains bits bit

-- for each defect, with s bits in its support, the budget is at least 2^s - 1
abbrev pub IsAmple : Task → Type 0
IsAmple task =
    (place : ℕ) (defect : ChipDefect) → IsDefectAt task place defect
    → (s : ℕ) × HasSupport (task.chip_of place) defect s × (2 ^ s ≤ task.budget + 1)

-- the defect can be exposed, no listed pair detects it, and the code is spent
pub record IsRightlyAborted (chip : Chip) (budget : ℕ) (pairs : List (List Bool)) (defect : ChipDefect)
    (code : List Token) : Type 0 where
  pub exposable : IsExposableIn chip defect
  pub undetected : NoneDetects chip defect pairs
  pub spent : IsSpentCode chip defect budget code

-- a spent code of which each leaf is at a settled or a plainly ruled out pair, and no branch, nor its next
-- partial pair, at a plainly ruled out one
abbrev pub IsCheckedSpent : Chip → ChipDefect → ℕ → List Token → Type 0
IsCheckedSpent chip defect budget code = IsSpentBy (search_rules chip defect) chip budget code

-- some defect is credited to the pair
pub record IsNeeded (verdicts : List Verdict) (pair : ℕ) : Type 0 where
  pub place : ℕ
  pub output : ℕ
  pub credited : slice_get verdicts place ≡ Some (Credited pair output)

-- the defect at the place is credited to the pair
pub record IsCreditedTo (verdicts : List Verdict) (pair place : ℕ) : Type 0 where
  pub output : ℕ
  pub credited : slice_get verdicts place ≡ Some (Credited pair output)

-- The promise: one verdict for each defect of the list, in order, of which each says what is so.
pub record IsGood (task : Task) (pairs : List (List Bool)) (aims : List ℕ) (verdicts : List Verdict) : Type 0
  where
    pub one_each : length verdicts ≡ length task.defects
    -- a credit names the first pair that detects the defect, and the first output at which it does
    pub credited : (place pair output : ℕ) (defect : ChipDefect)
        → HasVerdict task verdicts place defect (Credited pair output)
        → IsFirstDetection (task.chip_of place) defect pairs pair output
    -- unexposable exactly where no pair of vectors exposes the defect in its cell
    pub unexposable : (place : ℕ) (defect : ChipDefect) → HasVerdict task verdicts place defect Unexposable
        → ¬ (IsExposableIn (task.chip_of place) defect)
    pub named_unexposable : (place : ℕ) (defect : ChipDefect) → IsDefectAt task place defect
        → ¬ (IsExposableIn (task.chip_of place) defect) → HasVerdict task verdicts place defect Unexposable
    -- untestable only where no definite pair detects the defect
    pub untestable : (place : ℕ) (defect : ChipDefect) → HasVerdict task verdicts place defect Untestable
        → IsUntestable (task.chip_of place) defect
    -- aborted only where no listed pair detects the defect, and the whole budget was spent
    pub aborted : (place : ℕ) (defect : ChipDefect) (code : List Token)
        → HasVerdict task verdicts place defect (Aborted code)
        → IsRightlyAborted (task.chip_of place) task.budget pairs defect code
    -- no more pairs are listed than may be
    pub few : length pairs ≤ MOST_PAIRS
    -- no pair is listed in vain
    pub needed : (pair : ℕ) → pair < length pairs → IsNeeded verdicts pair
    -- each pair was found for its aim, which is credited to it
    pub aims_are : AreAims task pairs aims
    pub aims_credited : (pair aim : ℕ) → slice_get aims pair ≡ Some aim → IsCreditedTo verdicts pair aim
    -- where the budget is enough for every search, an aim is the least defect that is credited to its pair
    pub aims_least : IsAmple task → (pair aim place : ℕ) → slice_get aims pair ≡ Some aim
        → IsCreditedTo verdicts pair place → aim ≤ place
    -- the code of an aborted search can be checked
    pub checked : (place : ℕ) (defect : ChipDefect) (code : List Token)
        → HasVerdict task verdicts place defect (Aborted code)
        → IsCheckedSpent (task.chip_of place) defect task.budget code
