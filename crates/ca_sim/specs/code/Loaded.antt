-- What only proofs of code cite: bits that are kept with their waves.
use Rattle.std.specs.Prelude.{◌≡◌, length, None}
use Rattle.ca_flat.specs.Chip.{Chip}
use Rattle.ca_flat.specs.Pair.{bit_count}
use Rattle.ca_sim.specs.declared.loaded.Loaded.{Loaded}
use Rattle.ca_sim.specs.Current.{IsSimulated, none_due}

-- the waves are those of the bits
pub record AreLoaded (chip : Chip) (loaded : Loaded) : Type 0 where
  pub count : length loaded.bits ≡ bit_count chip
  pub simulated : IsSimulated chip None loaded.bits none_due loaded.waves
