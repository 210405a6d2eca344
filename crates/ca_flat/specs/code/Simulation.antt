-- Words of the code beside those of `specs/Simulation.antt`. Private functions and proofs cite them.
use Rattle.std.specs.Prelude.{ℕ, List, Option}
use Rattle.ca_net.specs.declared.trit.Trit.{Trit}
use Rattle.ca_flat.specs.declared.chip_defect.ChipDefect.{ChipDefect}
use Rattle.ca_flat.specs.Chip.{Chip}
use Rattle.ca_flat.specs.Simulation.{DrivesNets, InstanceLimitsAre}

-- the instance's cell has limits over the values of its input nets, and its output nets have the values of
-- its pins
pub record InstanceGives (chip : Chip) (given : Option ChipDefect) (firsts middles lasts : List Trit) (u : ℕ)
    : Type 0 where
  pub first : List Trit
  pub middle : List Trit
  pub last : List Trit
  pub limits : InstanceLimitsAre chip given firsts middles lasts u first middle last
  pub drives_first : DrivesNets chip u first firsts
  pub drives_middle : DrivesNets chip u middle middles
  pub drives_last : DrivesNets chip u last lasts
