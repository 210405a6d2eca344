-- Words of the code beside those of `specs/Attempt.antt`. Private functions and proofs cite them.
use Rattle.std.specs.Prelude.{◌≡◌, Some}
use Rattle.ca_flat.specs.declared.chip_defect.ChipDefect.{ChipDefect}
use Rattle.ca_flat.specs.Chip.{Chip}
use Rattle.ca_view.specs.Linked.{IsAim, place_in}
use Rattle.ca_sim.specs.Seen.{Seen}
use Rattle.ca_sim.specs.Simulator.{Simulator, KeepsSeen}
use Rattle.ca_confined.specs.Confined.{IsSimOf, KeepsAim}

-- the defect of the chip is aimed at, its instance has a place, and the simulator is of the same chip
pub record IsReadyFor (core : Chip) (defect : ChipDefect) (seen : Seen) (sim : Simulator) : Type 0 where
  pub chip_is : seen.chip ≡ core
  pub aim_is : seen.aim ≡ Some defect
  pub placed : IsAim seen.chip (place_in seen.places) seen.aim
  pub sim_is : IsSimOf seen.chip seen.places sim

-- the chip, its places and the aim stay, and all that the simulator sees
pub record KeepsAttempt (old new : Seen) (before after : Simulator) : Type 0 where
  pub aim : KeepsAim old new
  pub kept : KeepsSeen before after
