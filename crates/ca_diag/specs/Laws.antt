-- Laws of candidates. Each is the contract of a public function that does nothing (src/laws.rt).
use Rattle.std.specs.Prelude.{ℕ, ◌+◌, ◌≡◌, ◌≢◌, ◌↔◌, Bool, List, slice_get, slice_index, Some, None}
use Rattle.std.specs.List.{Contains}
use Rattle.ca_net.specs.declared.trit.Trit.{Trit}
use Rattle.ca_net.specs.State.{value_at}
use Rattle.ca_net.specs.PairRun.{PairRun}
use Rattle.ca_flat.specs.declared.chip_defect.ChipDefect.{ChipDefect}
use Rattle.ca_flat.specs.Chip.{Chip}
use Rattle.ca_flat.specs.Flat.{flat}
use Rattle.ca_flat.specs.Detection.{trits_of}
use Rattle.ca_flat.specs.Pair.{first_vector, last_vector, NetEndsAt}
use Rattle.ca_credit.specs.Defects.{Task}
use Rattle.ca_log.specs.declared.record.LogRecord.{LogRecord}
use Rattle.ca_diag.specs.declared.candidate.Candidate.{Candidate}
use Rattle.ca_diag.specs.Diagnosis.{IsPlaceOf, IsCandidate}
use Rattle.ca_diag.specs.Candidates.{AreCandidates}

-- for each listed pair the state in which one run of the chip with the defect has ended
abbrev pub AreRuns : Chip → List (List Bool) → ChipDefect → (ℕ → List Trit) → Type 0
AreRuns chip pairs defect ends =
    (k : ℕ) (pair : List Bool) → slice_get pairs k ≡ Some pair
    → PairRun (flat chip (Some defect)) (first_vector chip (trits_of pair))
    (last_vector chip (trits_of pair)) (ends k)

-- where the good chip ends with a value, the log has the place exactly if the run has ended with another
-- there
abbrev pub IsLogOf : Chip → List (List Bool) → (ℕ → List Trit) → List LogRecord → Type 0
IsLogOf chip pairs ends log =
    (here : LogRecord) (pair : List Bool) (value : Trit) → IsPlaceOf chip pairs here pair
    → NetEndsAt chip None (trits_of pair) (slice_index chip.outputs here.output) value
    → Contains log here ↔ (value_at (ends here.pair) (2 + slice_index chip.outputs here.output) ≢ value)

-- what a tester logs of a chip with a defect, whatever its runs, leaves the defect a candidate
abbrev pub CauseIsCandidate : Type 0
CauseIsCandidate =
    (chip : Chip) (pairs : List (List Bool)) (defect : ChipDefect) (ends : ℕ → List Trit)
    (log : List LogRecord) → AreRuns chip pairs defect ends → IsLogOf chip pairs ends log
    → IsCandidate chip pairs log defect

-- there is one list of candidates
abbrev pub CandidatesAreOne : Type 0
CandidatesAreOne =
    (task : Task) (pairs : List (List Bool)) (log : List LogRecord) (one other : List Candidate)
    → AreCandidates task pairs log one → AreCandidates task pairs log other → one ≡ other
