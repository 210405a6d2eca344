-- The nets that lead to the observed outputs that a defect reaches.
use Rattle.std.specs.Prelude.{ℕ, ◌≡◌, Bool, List, length}
use Rattle.std.specs.List.{Contains}
use Rattle.ca_flat.specs.Chip.{Chip}
use Rattle.ca_flat.specs.Chain.{Leads, IsReachedFrom}
use Rattle.ca_examiner.specs.code.Marks.{IsMarked}

-- a chain leads from the net to an observed output that the instance u also reaches
pub record LeadsOut (chip : Chip) (u net : ℕ) : Type 0 where
  pub output : ℕ
  pub observed : Contains chip.outputs output
  pub leads : Leads chip net output
  pub reached : IsReachedFrom chip u output

-- exactly these nets are marked
pub record AreLeadingNets (chip : Chip) (u : ℕ) (marks : List Bool) : Type 0 where
  pub size : length marks ≡ length chip.nets
  pub each : (net : ℕ) → LeadsOut chip u net → IsMarked marks net
  pub leads : (net : ℕ) → IsMarked marks net → LeadsOut chip u net
