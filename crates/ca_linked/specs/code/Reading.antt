-- Words of the code beside those of `specs/Reading.antt`. Private functions and proofs cite them.
use Rattle.std.specs.Prelude.{ℕ, ◌≡◌, ◌<◌, ◌⊎◌, ◌↔◌, List, length, Some, slice_get}
use Rattle.std.specs.List.{Contains}
use Rattle.ca_linked.specs.Linked.{LinkedChip, net_count}
use Rattle.ca_linked.specs.code.Walk.{row_of}
use Rattle.ca_linked.specs.Reading.{Reads}

-- for each net the list has those that were seen to read it
pub record HaveReaders (chip : LinkedChip) (Seen : ℕ → ℕ → Type 0) (rows : List (List ℕ)) : Type 0 where
  pub room : length rows ≡ net_count chip
  pub each : (net u : ℕ) → net < net_count chip → Contains (row_of rows net) u ↔ Seen net u

-- one of the first instances reads the net
abbrev pub ReadsAmong : LinkedChip → ℕ → ℕ → ℕ → Type 0
ReadsAmong chip count net u = (u < count) × Reads chip u net

-- one of the first pins is on the net
pub record IsOnPin (inputs : List ℕ) (count net : ℕ) : Type 0 where
  pub pin : ℕ
  pub before : pin < count
  pub at : slice_get inputs pin ≡ Some net

-- one of the instances before the current one reads the net, or one of the first pins of the current one is
-- on it
abbrev pub ReadsSoFar : LinkedChip → ℕ → List ℕ → ℕ → ℕ → ℕ → Type 0
ReadsSoFar chip current inputs count net u =
    ReadsAmong chip current net u ⊎ ((u ≡ current) × IsOnPin inputs count net)

-- the table has for each net the library instances that read it
abbrev pub AreReaders : LinkedChip → List (List ℕ) → Type 0
AreReaders chip rows = HaveReaders chip (λ net u. Reads chip u net) rows
