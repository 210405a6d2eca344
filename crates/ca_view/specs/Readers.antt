-- The readers of the nets of the core as a table.
use Rattle.std.specs.Prelude.{ℕ, ◌≡◌, ◌<◌, false, List, [], length, slice_index_or}
use Rattle.ca_linked.specs.Linked.{LinkedChip, net_count, is_scan_path}
use Rattle.ca_linked.specs.Reading.{AreReadersOf}
use Rattle.ca_view.specs.Core.{core_net}

-- the readers of a net of the core
abbrev pub row_at : List (List ℕ) → ℕ → List ℕ
row_at rows net = slice_index_or rows net []

-- the first nets of the chip that are off the scan path have their readers in the table, by their numbers
pub record AreFirstRows (chip : LinkedChip) (count : ℕ) (rows : List (List ℕ)) : Type 0 where
  pub room : length rows ≡ core_net chip count
  pub each : (net : ℕ) → net < count → is_scan_path chip net ≡ false
      → AreReadersOf chip net (row_at rows (core_net chip net))

-- so have all
abbrev pub AreRows : LinkedChip → List (List ℕ) → Type 0
AreRows chip rows = AreFirstRows chip (net_count chip) rows
