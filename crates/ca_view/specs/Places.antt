-- The places of instances in the order, and the numbers of their cells.
use Rattle.std.specs.Prelude.{ℕ, ◌≡◌, ◌<◌, List, length, slice_index, slice_get, Option, Some, None}
use Rattle.ca_linked.specs.declared.parts.Body.{Body}
use Rattle.ca_linked.specs.declared.parts.Part.{Part}
use Rattle.ca_linked.specs.declared.parts.Body.TheVariants.{Gate, Scan}
use Rattle.ca_linked.specs.Linked.{LinkedChip}
use Rattle.ca_view.specs.Core.{rank_of}

-- the place of an instance's cell in the library; 0 for a scan instance
abbrev pub body_number : Body → ℕ
body_number (Gate cell inputs outputs) = cell
body_number (Scan nets) = 0

abbrev pub part_number : Option Part → ℕ
part_number None = 0
part_number (Some part) = body_number part.body

-- the number of an instance's cell: its place in the library
unfoldable pub cell_number : LinkedChip → ℕ → ℕ
cell_number chip u = part_number (slice_get chip.parts u)

-- each instance has its rank in the table
pub record AreRanks (chip : LinkedChip) (ranks : List ℕ) : Type 0 where
  pub room : length ranks ≡ length chip.parts
  pub each : (u : ℕ) → u < length chip.parts → slice_index ranks u ≡ rank_of chip u
