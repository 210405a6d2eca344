-- What only proofs of code cite: at which output a defect is detected, and the defects that were tried with
-- the pair in hand.
use Rattle.std.specs.Prelude.{ℕ, ◌+◌, ◌≡◌, ◌≢◌, ◌<◌, ◌≤◌, ◌⊎◌, ◌↔◌, Bool, true, List, length, Option}
use Rattle.ca_places.specs.declared.place_set.PlaceSet.{PlaceSet}
use Rattle.ca_places.specs.PlaceSet.{Has, HasRoomFor, IsAsRoomy}
use Rattle.ca_flat.specs.declared.chip_defect.ChipDefect.{ChipDefect}
use Rattle.ca_credit.specs.declared.verdict.Verdict.{Verdict}
use Rattle.ca_credit.specs.declared.round.Round.{Round}
use Rattle.ca_credit.specs.Defects.{Task, IsDefectAt}
use Rattle.ca_credit.specs.Table.{verdict_at, is_open, credit_count, IsAfterPair}

-- a pair may yet be credited with the defect at this place
abbrev pub IsOpenAt : List (Option Verdict) → ℕ → Type 0
IsOpenAt table place = (place < length table) × (is_open (verdict_at table place) ≡ true)

-- the open places are those of the table, and the places that are left are some of these
pub record AreOpen (table : List (Option Verdict)) (open_places left : PlaceSet) : Type 0 where
  pub are : (place : ℕ) → Has open_places place ↔ IsOpenAt table place
  pub some : (place : ℕ) → Has left place → Has open_places place
  pub room : HasRoomFor open_places (length table)
  pub left_room : HasRoomFor left (length table)

-- so are those of a round
abbrev pub IsRound : Round → Type 0
IsRound round = AreOpen round.verdicts.items round.open_places round.left

-- a set but for one place
pub record IsWithout (old new : PlaceSet) (place : ℕ) : Type 0 where
  pub here : ¬ (Has new place)
  pub others : (other : ℕ) → other ≢ place → Has new other ↔ Has old other
  pub room : IsAsRoomy new old

-- what the pair makes of the verdicts of the defects from a place to an end that are left no more; the others
-- stay
pub record IsTried (task : Task) (pair : List Bool) (number start end : ℕ) (left : PlaceSet)
    (old new : List (Option Verdict)) : Type 0 where
  pub as_many : length new ≡ length old
  pub inside : (place : ℕ) → Has left place → (start ≤ place) × (place < end)
  pub done : (place : ℕ) (defect : ChipDefect) → start ≤ place → place < end → ¬ (Has left place)
      → IsDefectAt task place defect
      → IsAfterPair (task.chip_of place) pair number defect (verdict_at old place) (verdict_at new place)
  pub others : (place : ℕ) → Has left place → verdict_at new place ≡ verdict_at old place
  pub outside : (place : ℕ) → (place < start) ⊎ (end ≤ place)
      → verdict_at new place ≡ verdict_at old place

-- the set has the places of another one from one on up to an end
abbrev pub IsPartOf : PlaceSet → PlaceSet → ℕ → ℕ → Type 0
IsPartOf part whole start end =
    (place : ℕ) → Has part place ↔ (Has whole place × (start ≤ place) × (place < end))

-- more defects were tried, and `credited` were credited
pub record TriesMore (task : Task) (pair : List Bool) (number credited : ℕ) (old new : Round) : Type 0 where
  pub tried : (start end : ℕ) (table : List (Option Verdict))
      → IsTried task pair number start end old.left table old.verdicts.items
      → IsTried task pair number start end new.left table new.verdicts.items
  pub fewer : (place : ℕ) → Has new.left place → Has old.left place
  pub stands : IsRound old → IsRound new
  pub as_many : length new.verdicts.items ≡ length old.verdicts.items
  pub counted : credit_count new.verdicts.items ≡ credit_count old.verdicts.items + credited
