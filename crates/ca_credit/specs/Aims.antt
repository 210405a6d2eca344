-- How many defects are aimed at for a pair: at most those that it may detect by the rows that expose them.
use Rattle.std.specs.Prelude.{ℕ, zero, suc, ◌+◌, ◌≡◌, ◌≤◌, Bool, true, List, [], length, slice_get}
use Rattle.std.specs.Prelude.{slice_index_or, Option, None, Some}
use Rattle.ca_net.specs.declared.trit.Trit.{Trit}
use Rattle.ca_flat.specs.declared.chip_defect.ChipDefect.{ChipDefect}
use Rattle.ca_code.specs.Filled.{trits_of}
use Rattle.ca_credit.specs.declared.verdict.Verdict.{Verdict}
use Rattle.ca_credit.specs.Defects.{Task, IsDefectAt}
use Rattle.ca_credit.specs.Detection.{IsAllowedByRows}
use Rattle.ca_credit.specs.Table.{verdict_at, is_open, CreditsPair}

-- of the first `count` places, `some` or more have the property
pub data HaveAmong (P : ℕ → Type 0) : ℕ → ℕ → Type 0 where
  Start : HaveAmong P 0 0
  Passes : (count some : ℕ) → HaveAmong P count some → HaveAmong P (count + 1) some
  Counts : (count some : ℕ) → P count → HaveAmong P count some → HaveAmong P (count + 1) (some + 1)

-- a pair may yet be credited with the defect at this place, and this pair may show it by the rows
pub record IsSuspectAt (task : Task) (pair : List Bool) (table : List (Option Verdict)) (place : ℕ) : Type 0
  where
    pub waits : is_open (verdict_at table place) ≡ true
    pub allowed : (defect : ChipDefect) → IsDefectAt task place defect
        → IsAllowedByRows (task.chip_of place) defect (trits_of pair)

-- one was aimed at most once more often than there are suspect defects
pub record AimsAtSuspects (task : Task) (pair : List Bool) (table : List (Option Verdict)) (before after : ℕ)
    : Type 0 where
  pub suspects : ℕ
  pub are : HaveAmong (IsSuspectAt task pair table) (length table) suspects
  pub few : after ≤ before + suspects + 1

-- the bits after this many pairs of a list, from this place on: those of the last one, or those before
abbrev pub bits_after : List (List Bool) → ℕ → ℕ → List Trit → List Trit
bits_after pairs from zero before = before
bits_after pairs from (suc count) before = trits_of (slice_index_or pairs (from + count) [])

-- what is aimed at after this many pairs: nothing, or where there is no pair what was before
abbrev pub aimed_after : ℕ → Option ChipDefect → Option ChipDefect
aimed_after zero before = before
aimed_after (suc count) before = None

-- how often one may aim for this many pairs of a list, from this place on, which are credited one after
-- another: for each of them once more often than there are suspect defects, by the table that it meets
pub data MayAimOver (task : Task) (pairs : List (List Bool)) (from : ℕ) (old : List (Option Verdict))
    : ℕ → List (Option Verdict) → ℕ → Type 0 where
  NoPair : MayAimOver task pairs from old 0 old 0
  OnePair : (count most suspects : ℕ) (pair : List Bool) (middle new : List (Option Verdict))
      → MayAimOver task pairs from old count middle most → slice_get pairs (from + count) ≡ Some pair
      → HaveAmong (IsSuspectAt task pair middle) (length middle) suspects
      → CreditsPair task pair (from + count) middle new
      → MayAimOver task pairs from old (count + 1) new (most + suspects + 1)

-- one was aimed at most so often as one may for these pairs
pub record AimsOverBlock (task : Task) (pairs : List (List Bool)) (from : ℕ) (old : List (Option Verdict))
    (count : ℕ) (new : List (Option Verdict)) (before after : ℕ) : Type 0 where
  pub most : ℕ
  pub may : MayAimOver task pairs from old count new most
  pub few : after ≤ before + most
