-- The table in which verdicts are gathered: a verdict for each defect, or none yet.
use Rattle.std.specs.Prelude.{ℕ, ◌+◌, ◌≡◌, ◌⊎◌, ◌<◌, ◌≤◌, Bool, true, false, Option, Some, None}
use Rattle.std.specs.Prelude.{List, [], ◌∷◌, length, slice_get, slice_index_or}
use Rattle.ca_flat.specs.declared.chip_defect.ChipDefect.{ChipDefect}
use Rattle.ca_flat.specs.Chip.{Chip}
use Rattle.ca_credit.specs.declared.verdict.Verdict.{Verdict}
use Rattle.ca_credit.specs.declared.verdict.Verdict.TheVariants.{Credited, Unexposable, Untestable, Aborted}
use Rattle.ca_credit.specs.Defects.{Task, IsDefectAt}
use Rattle.ca_credit.specs.Detection.{Detects, IsFirstOutput}

-- the verdicts that are known
abbrev pub known_verdicts : List (Option Verdict) → List Verdict
known_verdicts [] = []
known_verdicts (None ∷ table) = known_verdicts table
known_verdicts (Some verdict ∷ table) = verdict ∷ known_verdicts table

-- each is known
abbrev pub AreAllKnown : List (Option Verdict) → Type 0
AreAllKnown [] = Unit {0}
AreAllKnown (None ∷ table) = ⊥
AreAllKnown (Some verdict ∷ table) = AreAllKnown table

-- the verdict of the defect at a place, if it is known
abbrev pub verdict_at : List (Option Verdict) → ℕ → Option Verdict
verdict_at table place = slice_index_or table place None

-- a pair may yet be credited with the defect
abbrev pub is_open : Option Verdict → Bool
is_open None = true
is_open (Some (Credited pair output)) = false
is_open (Some Unexposable) = false
is_open (Some Untestable) = false
is_open (Some (Aborted code)) = true

-- the pair detects the defect, and the verdict names its number and the first output at which it does
pub record IsCredit (chip : Chip) (pair : List Bool) (number : ℕ) (defect : ChipDefect) (new : Option Verdict)
    : Type 0 where
  pub detects : Detects chip defect pair
  pub output : ℕ
  pub first : IsFirstOutput chip defect output pair
  pub credited : new ≡ Some (Credited number output)

-- the pair doesn't detect the defect, and the verdict is as before
pub record IsKept (chip : Chip) (pair : List Bool) (defect : ChipDefect) (old new : Option Verdict) : Type 0
  where
    pub undetected : ¬ (Detects chip defect pair)
    pub same : new ≡ old

-- what a pair makes of an open verdict: a credit exactly where it detects the defect
abbrev pub IsCreditOrKept : Chip → List Bool → ℕ → ChipDefect → Option Verdict → Option Verdict → Type 0
IsCreditOrKept chip pair number defect old new =
    IsCredit chip pair number defect new ⊎ IsKept chip pair defect old new

-- what a pair makes of a verdict: one that isn't open stays
abbrev pub IsAfterPair : Chip → List Bool → ℕ → ChipDefect → Option Verdict → Option Verdict → Type 0
IsAfterPair chip pair number defect None new = IsCreditOrKept chip pair number defect None new
IsAfterPair chip pair number defect (Some (Credited before output)) new = new ≡ Some (Credited before output)
IsAfterPair chip pair number defect (Some Unexposable) new = new ≡ Some Unexposable
IsAfterPair chip pair number defect (Some Untestable) new = new ≡ Some Untestable
IsAfterPair chip pair number defect (Some (Aborted code)) new =
    IsCreditOrKept chip pair number defect (Some (Aborted code)) new

-- what a pair makes of the verdicts of the first `count` defects of the list; the others stay
pub record CreditsUpTo (task : Task) (pair : List Bool) (number count : ℕ)
    (old new : List (Option Verdict)) : Type 0 where
  pub as_many : length new ≡ length old
  pub each : (place : ℕ) (defect : ChipDefect) → place < count → IsDefectAt task place defect
      → IsAfterPair (task.chip_of place) pair number defect (verdict_at old place) (verdict_at new place)
  pub others : (place : ℕ) → count ≤ place → verdict_at new place ≡ verdict_at old place

-- what a pair makes of the verdicts of the defects from a place of the list to an end; the others stay
pub record CreditsIn (task : Task) (pair : List Bool) (number start end : ℕ) (old new : List (Option Verdict))
    : Type 0 where
  pub as_many : length new ≡ length old
  pub each : (place : ℕ) (defect : ChipDefect) → start ≤ place → place < end → IsDefectAt task place defect
      → IsAfterPair (task.chip_of place) pair number defect (verdict_at old place) (verdict_at new place)
  pub others : (place : ℕ) → (place < start) ⊎ (end ≤ place)
      → verdict_at new place ≡ verdict_at old place

-- what a pair makes of the table
abbrev pub CreditsPair : Task → List Bool → ℕ → List (Option Verdict) → List (Option Verdict) → Type 0
CreditsPair task pair number old new = CreditsUpTo task pair number (length old) old new

-- what this many pairs of a list make of the table, from this place on, one after another, each with its
-- place as its number
pub data CreditsBlock (task : Task) (pairs : List (List Bool)) (from : ℕ) (old : List (Option Verdict))
    : ℕ → List (Option Verdict) → Type 0 where
  Begins : CreditsBlock task pairs from old 0 old
  Credits : (count : ℕ) (pair : List Bool) (middle new : List (Option Verdict))
      → CreditsBlock task pairs from old count middle → slice_get pairs (from + count) ≡ Some pair
      → CreditsPair task pair (from + count) middle new → CreditsBlock task pairs from old (count + 1) new

-- how many defects are credited
abbrev pub credit_count : List (Option Verdict) → ℕ
credit_count [] = 0
credit_count (None ∷ table) = credit_count table
credit_count (Some (Credited pair output) ∷ table) = credit_count table + 1
credit_count (Some Unexposable ∷ table) = credit_count table
credit_count (Some Untestable ∷ table) = credit_count table
credit_count (Some (Aborted code) ∷ table) = credit_count table

-- the verdict may be set: it isn't a credit
abbrev pub IsSettling : Verdict → Type 0
IsSettling (Credited pair output) = ⊥
IsSettling Unexposable = Unit {0}
IsSettling Untestable = Unit {0}
IsSettling (Aborted code) = Unit {0}
