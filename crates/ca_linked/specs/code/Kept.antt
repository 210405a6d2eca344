-- What a linked chip keeps beside what contracts see of it. Only the proofs of the code cite this.
use Rattle.std.specs.Prelude.{ℕ, ◌≡◌, ◌<◌, List, Bool, length, Some, slice_get, slice_index}
use Rattle.ca_linked.specs.declared.drivers.Sources.{Sources}
use Rattle.ca_linked.specs.Linked.{LinkedChip, net_count, is_scan_path, inputs_of, outputs_of, IsWired}
use Rattle.ca_linked.specs.Instances.{gates_of, scans_of}
use Rattle.ca_linked.specs.Cells.{used_cells}
use Rattle.ca_linked.specs.Feeding.{AreSingle}
use Rattle.ca_linked.specs.code.Reading.{AreReaders}
use Rattle.ca_linked.specs.Paths.{AreMarks}

-- for each net whether it is on the scan path, and its driver; for each library instance its place in the
-- order; for each net its readers; and the nets of the chip inputs and of the observed outputs; and the
-- library instances and the scan instances in netlist order; and the places of the cells that are used
pub record KeptTables : Type 0 where
  pub path : List Bool
  pub drivers : List Sources
  pub places : List ℕ
  pub readers : List (List ℕ)
  pub inputs : List ℕ
  pub outputs : List ℕ
  pub gates : List ℕ
  pub scans : List ℕ
  pub used : List ℕ

-- the list has the place of each number below a count that is among the first of the order
pub record ArePlaces (order : List ℕ) (count instances : ℕ) (places : List ℕ) : Type 0 where
  pub room : length places ≡ instances
  pub each : (k u : ℕ) → k < count → slice_get order k ≡ Some u → slice_index places u ≡ k

-- the chip is wired, and the tables are its own
pub record IsKept (chip : LinkedChip) (kept : KeptTables) : Type 0 where
  pub wired : IsWired chip
  pub marked : AreMarks (net_count chip) (is_scan_path chip) kept.path
  pub single : AreSingle chip kept.drivers
  pub placed : ArePlaces chip.order (length chip.order) (length chip.parts) kept.places
  pub read : AreReaders chip kept.readers
  pub are_inputs : kept.inputs ≡ inputs_of chip
  pub are_outputs : kept.outputs ≡ outputs_of chip
  pub are_gates : kept.gates ≡ gates_of chip
  pub are_scans : kept.scans ≡ scans_of chip
  pub are_used : kept.used ≡ used_cells chip
