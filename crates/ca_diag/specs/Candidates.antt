-- The candidates of a chip: its defects that aren't contradicted, and how much each of them explains.
use Rattle.std.specs.Prelude.{ℕ, suc, ◌≡◌, ◌<◌, ◌⊎◌, Bool, List, [], ◌∷◌, slice_get, Some}
use Rattle.std.specs.List.{All, AllPairs}
use Rattle.ca_flat.specs.declared.chip_defect.ChipDefect.{ChipDefect}
use Rattle.ca_credit.specs.Defects.{Task, IsDefectAt}
use Rattle.ca_log.specs.declared.record.LogRecord.{LogRecord}
use Rattle.ca_diag.specs.declared.candidate.Candidate.{Candidate}
use Rattle.ca_diag.specs.Diagnosis.{IsCandidate, Explains}

-- each record is of one of this many pairs and outputs
abbrev pub AreLoggedWithin : ℕ → ℕ → List LogRecord → Type 0
AreLoggedWithin pairs outputs log = All (λ here. (here.pair < pairs) × (here.output < outputs)) log

-- this many entries of the list have the property
abbrev pub AreSoMany : {T : Type 0} → (T → Type 0) → List T → ℕ → Type 0
AreSoMany P [] count = count ≡ 0
AreSoMany P (x ∷ xs) count =
    (P x × (others : ℕ) × (count ≡ suc others) × AreSoMany P xs others) ⊎ (¬ (P x) × AreSoMany P xs count)

-- the defect at this place of the chip's list is a candidate, and explains this many records of the log
pub record IsListed (task : Task) (pairs : List (List Bool)) (log : List LogRecord) (one : Candidate) : Type 0
  where
    pub defect : ChipDefect
    pub at : IsDefectAt task one.defect defect
    pub stands : IsCandidate task.chip pairs log defect
    pub explains : AreSoMany (Explains task.chip pairs defect) log one.explained

-- the list has the defect at this place
pub record Has (candidates : List Candidate) (place : ℕ) : Type 0 where
  pub k : ℕ
  pub one : Candidate
  pub at : slice_get candidates k ≡ Some one
  pub is : one.defect ≡ place

-- each that is listed is a candidate, each candidate is listed, and they are in the order of the defects
pub record AreCandidates (task : Task) (pairs : List (List Bool)) (log : List LogRecord)
    (candidates : List Candidate) : Type 0 where
  pub each : All (IsListed task pairs log) candidates
  pub all : (place : ℕ) (defect : ChipDefect) → IsDefectAt task place defect
      → IsCandidate task.chip pairs log defect → Has candidates place
  pub in_order : AllPairs (λ one other. one.defect < other.defect) candidates
