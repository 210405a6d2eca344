-- Bridges as targets: each is a short of a chip that stands for the chip with the bridge.
use Rattle.std.specs.Prelude.{ℕ, ◌≡◌, ◌<◌, ◌↔◌, List, length, slice_get, Some, None}
use Rattle.ca_net.specs.declared.trit.Trit.{Trit}
use Rattle.ca_flat.specs.declared.chip_defect.ChipDefect.{ChipDefect}
use Rattle.ca_flat.specs.Chip.{Chip}
use Rattle.ca_flat.specs.Pair.{NetEndsAt, DetectsAt}
use Rattle.ca_credit.specs.Defects.{Task, IsDefectAt}
use Rattle.ca_merged.specs.Bridge.{BridgeDetectsAt}

-- a bridge by its ends: two nodes of an instance's cell, the lower one first
pub record Ends : Type 0 where
  pub instance : ℕ
  pub low : ℕ
  pub high : ℕ

-- the short of the other chip, for the bridge of the chip: the good chips end alike at each net, and a pair
-- detects the bridge exactly where it detects the short
pub record IsForBridge (chip : Chip) (ends : Ends) (made : Chip) (short : ChipDefect) : Type 0 where
  pub same_inputs : made.inputs ≡ chip.inputs
  pub same_outputs : made.outputs ≡ chip.outputs
  pub good : (pair : List Trit) (net : ℕ) (v : Trit) → net < length chip.nets
      → NetEndsAt chip None pair net v ↔ NetEndsAt made None pair net v
  pub detects : (pair : List Trit) (net : ℕ) → net < length chip.nets
      → BridgeDetectsAt chip ends.instance ends.low ends.high pair net ↔ DetectsAt made short pair net

-- the defects of the task are for these bridges, one for each, in order
pub record AreForBridges (task : Task) (bridges : List Ends) : Type 0 where
  pub one_each : length task.defects ≡ length bridges
  pub each : (place : ℕ) (ends : Ends) (short : ChipDefect) → slice_get bridges place ≡ Some ends
      → IsDefectAt task place short → IsForBridge task.chip ends (task.chip_of place) short
