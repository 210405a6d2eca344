-- The values that the loop over the observed outputs takes. Only functions of this crate and their proofs
-- cite this.
use Rattle.std.specs.Prelude.{ℕ, ◌≡◌, ◌<◌, List, length, slice_index, Option}
use Rattle.ca_net.specs.declared.trit.Trit.{Trit}
use Rattle.ca_net.specs.declared.wave.Wave.{Wave}
use Rattle.ca_net.specs.State.{value_at}
use Rattle.ca_response.specs.Gives.{wave_at}
use Rattle.ca_flat.specs.declared.chip_defect.ChipDefect.{ChipDefect}
use Rattle.ca_linked.specs.Linked.{IsWired}
use Rattle.ca_view.specs.Core.{core_of}
use Rattle.ca_flatten.specs.Few.{IsFew}
use Rattle.ca_view.specs.Places.{AreRanks}
use Rattle.ca_view.specs.View.{Viewed}
use Rattle.ca_sim.specs.Seen.{Seen}
use Rattle.ca_simulate.specs.declared.simulation.OutputEnds.{OutputEnds}

-- the values are the last ones of the waves of the first observed outputs
pub record HaveLasts (outputs : List ℕ) (waves : List Wave) (count : ℕ) (values : List Trit) : Type 0 where
  pub room : length values ≡ count
  pub each : (o : ℕ) → o < count → value_at values o ≡ (wave_at waves (slice_index outputs o)).last

-- those of all observed outputs, without the defect and with it
pub record AreLasts (outputs : List ℕ) (seen : Seen) (ends : OutputEnds) : Type 0 where
  pub good : HaveLasts outputs seen.good (length outputs) ends.good.items
  pub faulty : HaveLasts outputs seen.faulty (length outputs) ends.faulty.items

-- the view are those of a linked chip whose flat networks have few enough nodes and devices
pub record AreReady (view : Viewed) : Type 0 where
  pub wired : IsWired view.chip
  pub core_is : view.core ≡ core_of view.chip
  pub ranked : AreRanks view.chip view.ranks
  pub few : (given : Option ChipDefect) → IsFew (core_of view.chip) given
