-- A simulator beside a finder, which works by last values alone.
use Rattle.std.specs.Prelude.{◌≡◌, Bool, true, None}
use Rattle.ca_net.specs.State.{value_at}
use Rattle.ca_flips.specs.Flips.{AreLastsOf}
use Rattle.ca_sim.specs.Seen.{AreNetWaves}
use Rattle.ca_sim.specs.Simulator.{Simulator}
use Rattle.ca_sweep.specs.Seen.{Loaded}

-- the finder is of the simulator's chip, and where it is loaded it has the good waves for the bits, and the
-- last values of these
pub record IsFlipSim (sim : Simulator) (finder : Loaded) (loaded : Bool) : Type 0 where
  pub chip_is : finder.chip ≡ sim.seen.chip
  pub places_are : finder.places ≡ sim.seen.places
  pub lasts : loaded ≡ true → AreLastsOf sim.seen.chip sim.seen.pair (value_at finder.lasts)
  pub waves : loaded ≡ true → AreNetWaves sim.seen.chip None sim.seen.pair finder.waves
