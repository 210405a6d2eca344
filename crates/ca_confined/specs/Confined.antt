-- What contracts see of a confined simulator.
use Rattle.std.specs.Prelude.{ℕ, ◌≡◌, List}
use Rattle.ca_flat.specs.Chip.{Chip}
use Rattle.ca_sim.specs.Seen.{Seen}
use Rattle.ca_sim.specs.Simulator.{Simulator}

-- a simulator of the chip, with these places
pub record IsSimOf (chip : Chip) (places : List ℕ) (sim : Simulator) : Type 0 where
  pub chip_is : sim.seen.chip ≡ chip
  pub places_are : sim.seen.places ≡ places

-- the chip is the same
pub record KeepsChip (old new : Seen) : Type 0 where
  pub chip : new.chip ≡ old.chip
  pub places : new.places ≡ old.places

-- the defect that is aimed at, too
pub record KeepsAim (old new : Seen) : Type 0 where
  pub chip : KeepsChip old new
  pub aim : new.aim ≡ old.aim
