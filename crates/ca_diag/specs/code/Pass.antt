-- The open candidates after some pairs, and what a pass with one more does.
use Rattle.std.specs.Prelude.{ℕ, ◌+◌, ◌≡◌, ◌<◌, ◌≤◌, ◌⊎◌, Bool, List, [], ◌∷◌, length, take, slice_get}
use Rattle.std.specs.Prelude.{Some, None}
use Rattle.std.specs.List.{All, AllPairs}
use Rattle.ca_net.specs.declared.trit.Trit.{Trit}
use Rattle.ca_flat.specs.declared.chip_defect.ChipDefect.{ChipDefect}
use Rattle.ca_flat.specs.Chip.{Chip}
use Rattle.ca_credit.specs.Defects.{Task, IsDefectAt}
use Rattle.ca_log.specs.declared.record.LogRecord.{LogRecord}
use Rattle.ca_diag.specs.declared.candidate.Candidate.{Candidate}
use Rattle.ca_diag.specs.Diagnosis.{IsContradicted, Explains}
use Rattle.ca_diag.specs.Candidates.{AreSoMany, Has}
use Rattle.ca_diag.specs.code.Judged.{IsJudged}

-- one of the first pairs contradicts the defect
pub record IsContradictedBy (count : ℕ) (chip : Chip) (pairs : List (List Bool)) (log : List LogRecord)
    (defect : ChipDefect) : Type 0 where
  pub contradicted : IsContradicted chip pairs log defect
  pub before : contradicted.here.pair < count

-- the defect explains a record of one of the first pairs
abbrev pub ExplainsBy : ℕ → Chip → List (List Bool) → ChipDefect → LogRecord → Type 0
ExplainsBy count chip pairs defect here = (here.pair < count) × Explains chip pairs defect here

-- none of the first pairs contradicts the defect at this place, and this many of their records it explains
pub record IsOpen (count : ℕ) (task : Task) (pairs : List (List Bool)) (log : List LogRecord)
    (one : Candidate) : Type 0 where
  pub defect : ChipDefect
  pub at : IsDefectAt task one.defect defect
  pub stands : ¬ (IsContradictedBy count task.chip pairs log defect)
  pub explains : AreSoMany (ExplainsBy count task.chip pairs defect) log one.explained

-- these are all such, in order
pub record AreOpen (count : ℕ) (task : Task) (pairs : List (List Bool)) (log : List LogRecord)
    (open_ones : List Candidate) : Type 0 where
  pub each : All (IsOpen count task pairs log) open_ones
  pub all : (place : ℕ) (defect : ChipDefect) → IsDefectAt task place defect
      → ¬ (IsContradictedBy count task.chip pairs log defect) → Has open_ones place
  pub in_order : AllPairs (λ one other. one.defect < other.defect) open_ones

-- the pair is against the defect of the candidate
pub record IsLeft (task : Task) (bits : List Trit) (outputs : List ℕ) (one : Candidate) : Type 0 where
  pub defect : ChipDefect
  pub at : IsDefectAt task one.defect defect
  pub judged : IsJudged task.chip bits outputs defect None

-- it isn't, and this is the candidate with what the pair adds
pub record IsKept (task : Task) (bits : List Trit) (outputs : List ℕ) (one new : Candidate) : Type 0 where
  pub defect : ChipDefect
  pub more : ℕ
  pub at : IsDefectAt task one.defect defect
  pub judged : IsJudged task.chip bits outputs defect (Some more)
  pub same : new.defect ≡ one.defect
  pub adds : new.explained ≡ one.explained + more

-- each of the old candidates is left out or kept, in order
abbrev pub IsPass : Task → List Trit → List ℕ → List Candidate → List Candidate → Type 0
IsPass task bits outputs [] new = new ≡ []
IsPass task bits outputs (one ∷ old) new =
    (IsLeft task bits outputs one × IsPass task bits outputs old new)
    ⊎ ((kept : Candidate) × (others : List Candidate) × (new ≡ kept ∷ others)
    × IsKept task bits outputs one kept × IsPass task bits outputs old others)

-- so it is of the first k of the old candidates, of which `kept` are kept at the front of the list; those
-- that are still to come are where they were
pub record IsPassTo (task : Task) (bits : List Trit) (outputs : List ℕ) (old : List Candidate) (k kept : ℕ)
    (list : List Candidate) : Type 0 where
  pub long : length list ≡ length old
  pub few : kept ≤ k
  pub rest : (j : ℕ) → k ≤ j → slice_get list j ≡ slice_get old j
  pub passed : IsPass task bits outputs (take k old) (take kept list)

-- the candidates of the first defects, of which each explains nothing yet
pub record AreAll (count : ℕ) (list : List Candidate) : Type 0 where
  pub as_many : length list ≡ count
  pub each : (k : ℕ) → k < count → slice_get list k ≡ Some (record { defect = k; explained = 0 })
