-- What holds while the defects have their turns.
use Rattle.std.specs.Prelude.{ℕ, ◌≡◌, ◌<◌, ◌≤◌, ◌++◌, Bool, List, length, slice_get, Option, Some, None}
use Rattle.std.specs.List.{All}
use Rattle.ca_flat.specs.declared.chip_defect.ChipDefect.{ChipDefect}
use Rattle.ca_flat.specs.declared.token.Token.{Token}
use Rattle.ca_flat.specs.Chip.{Chip}
use Rattle.ca_flat.specs.Pair.{bit_count}
use Rattle.ca_credit.specs.declared.verdict.Verdict.{Verdict}
use Rattle.ca_credit.specs.declared.verdict.Verdict.TheVariants.{Credited, Unexposable, Untestable, Aborted}
use Rattle.ca_credit.specs.Defects.{Task, IsDefectAt, IsExposableIn}
use Rattle.ca_credit.specs.Detection.{IsFirstDetection, IsUntestable, NoneDetects}
use Rattle.ca_credit.specs.Listed.{AreAims}
use Rattle.ca_credit.specs.Good.{IsAmple, IsRightlyAborted, IsCheckedSpent}
use Rattle.ca_credit.specs.Table.{verdict_at}
use Rattle.ca_credit.specs.declared.limit.TheConstants.{MOST_PAIRS}
use Rattle.ca_generate.specs.declared.work.Work.{Work}
use Rattle.ca_generate.specs.declared.search_end.SearchEnd.{SearchEnd}
use Rattle.ca_generate.specs.Outcome.{IsSearchEnd}

-- no verdict yet: the defect can be exposed, its turn is still to come, and no listed pair detects it
pub record IsWaiting (task : Task) (turns : ℕ) (pairs : List (List Bool)) (place : ℕ) (defect : ChipDefect)
    : Type 0 where
  pub to_come : turns ≤ place
  pub exposable : IsExposableIn (task.chip_of place) defect
  pub undetected : NoneDetects (task.chip_of place) defect pairs

-- a credit to the first listed pair that detects the defect; where the budget is ample, the pair's aim isn't
-- a later defect
pub record IsRightlyCredited (task : Task) (pairs : List (List Bool)) (aims : List ℕ) (place : ℕ)
    (defect : ChipDefect) (pair output : ℕ) : Type 0 where
  pub exposable : IsExposableIn (task.chip_of place) defect
  pub first : IsFirstDetection (task.chip_of place) defect pairs pair output
  pub least : IsAmple task → (aim : ℕ) → slice_get aims pair ≡ Some aim → aim ≤ place

-- the defect can be exposed in its cell, and no definite pair of the chip detects it
pub record IsRightlyUntestable (chip : Chip) (defect : ChipDefect) : Type 0 where
  pub exposable : IsExposableIn chip defect
  pub untestable : IsUntestable chip defect

-- an aborted search that can be checked
pub record IsAbortedSearch (chip : Chip) (budget : ℕ) (pairs : List (List Bool)) (defect : ChipDefect)
    (code : List Token) : Type 0 where
  pub rightly : IsRightlyAborted chip budget pairs defect code
  pub checked : IsCheckedSpent chip defect budget code

-- what is true of the defect at a place, by its verdict, after the first `turns` defects had their turns
abbrev pub IsEntry : Task → ℕ → List (List Bool) → List ℕ → ℕ → ChipDefect → Option Verdict → Type 0
IsEntry task turns pairs aims place defect None = IsWaiting task turns pairs place defect
IsEntry task turns pairs aims place defect (Some (Credited pair output)) =
    IsRightlyCredited task pairs aims place defect pair output
IsEntry task turns pairs aims place defect (Some Unexposable) = ¬ (IsExposableIn (task.chip_of place) defect)
IsEntry task turns pairs aims place defect (Some Untestable) =
    IsRightlyUntestable (task.chip_of place) defect
IsEntry task turns pairs aims place defect (Some (Aborted code)) =
    IsAbortedSearch (task.chip_of place) task.budget pairs defect code

-- the defect at the place is credited to the pair
pub record IsCreditAt (table : List (Option Verdict)) (pair place : ℕ) : Type 0 where
  pub output : ℕ
  pub credited : verdict_at table place ≡ Some (Credited pair output)

-- after the first `turns` defects had their turns: what each verdict says is true, and each listed pair was
-- found for its aim, which had its turn and is credited to it
pub record StandsAfter (task : Task) (turns : ℕ) (table : List (Option Verdict)) (pairs : List (List Bool))
    (aims : List ℕ) : Type 0 where
  pub as_many : length table ≡ length task.defects
  pub entries : (place : ℕ) (defect : ChipDefect) → IsDefectAt task place defect
      → IsEntry task turns pairs aims place defect (verdict_at table place)
  pub within : length pairs ≤ MOST_PAIRS
  pub bits : All (λ pair. length pair ≡ bit_count task.chip) pairs
  pub aims_are : AreAims task pairs aims
  pub aims_before : (pair aim : ℕ) → slice_get aims pair ≡ Some aim → aim < turns
  pub aims_credited : (pair aim : ℕ) → slice_get aims pair ≡ Some aim → IsCreditAt table pair aim

-- the same where the places before an edge were tried with all listed pairs, and those from it on with the
-- first ones, which are `done`; the edge is past the defects that had their turns
pub record StandsUpTo (task : Task) (turns edge : ℕ) (done : List (List Bool)) (table : List (Option Verdict))
    (pairs : List (List Bool)) (aims : List ℕ) : Type 0 where
  pub as_many : length table ≡ length task.defects
  pub near : (place : ℕ) (defect : ChipDefect) → place < edge → IsDefectAt task place defect
      → IsEntry task turns pairs aims place defect (verdict_at table place)
  pub far : (place : ℕ) (defect : ChipDefect) → edge ≤ place → IsDefectAt task place defect
      → IsEntry task turns done aims place defect (verdict_at table place)
  pub ahead : turns ≤ edge
  pub edge_within : edge ≤ length table
  pub rest : List (List Bool)
  pub pairs_are : pairs ≡ done ++ rest
  pub within : length pairs ≤ MOST_PAIRS
  pub bits : All (λ pair. length pair ≡ bit_count task.chip) pairs
  pub aims_are : AreAims task pairs aims
  pub aims_before : (pair aim : ℕ) → slice_get aims pair ≡ Some aim → aim < turns
  pub aims_credited : (pair aim : ℕ) → slice_get aims pair ≡ Some aim → IsCreditAt table pair aim

-- so does the work, of whose pairs this many were tried everywhere
pub record StandsTo (task : Task) (turns count : ℕ) (work : Work) : Type 0 where
  pub done : List (List Bool)
  pub count_is : length done ≡ count
  pub stands : StandsUpTo task turns work.edge done work.credits work.pairs work.aims

abbrev pub WorkStands : Task → ℕ → Work → Type 0
WorkStands task turns work = StandsTo task turns work.credited work

-- whether the defect can be exposed is known: where it can, it has no verdict yet, and else it is unexposable
abbrev pub IsScreenedEntry : Chip → ChipDefect → Option Verdict → Type 0
IsScreenedEntry chip defect None = IsExposableIn chip defect
IsScreenedEntry chip defect (Some (Credited pair output)) = ⊥
IsScreenedEntry chip defect (Some Unexposable) = ¬ (IsExposableIn chip defect)
IsScreenedEntry chip defect (Some Untestable) = ⊥
IsScreenedEntry chip defect (Some (Aborted code)) = ⊥

-- of the first `count` defects that is known, and the others have no verdict yet
pub record IsScreened (task : Task) (count : ℕ) (table : List (Option Verdict)) : Type 0 where
  pub as_many : length table ≡ length task.defects
  pub entries : (place : ℕ) (defect : ChipDefect) → place < count → IsDefectAt task place defect
      → IsScreenedEntry (task.chip_of place) defect (verdict_at table place)
  pub others : (place : ℕ) → count ≤ place → verdict_at table place ≡ None

-- a search for the defect at the place has ended so
abbrev pub IsEndAt : Task → ℕ → SearchEnd → Type 0
IsEndAt task place end =
    (defect : ChipDefect) → IsDefectAt task place defect
    → IsSearchEnd (task.chip_of place) task.budget defect end
