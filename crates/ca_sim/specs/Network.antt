-- The waves of one network, and the places whose instances are due.
use Rattle.std.specs.Prelude.{ℕ, ◌+◌, ◌≡◌, ◌≢◌, ◌<◌, ◌≤◌, ◌⊎◌, List, length, slice_index, Option, None, Some}
use Rattle.std.specs.List.{All}
use Rattle.ca_net.specs.declared.trit.Trit.{Trit}
use Rattle.ca_net.specs.declared.trit.Trit.TheVariants.{X}
use Rattle.ca_net.specs.declared.wave.Wave.{Wave}
use Rattle.ca_net.specs.State.{value_at}
use Rattle.ca_net.specs.Wave.{IsWave, pair_of}
use Rattle.ca_response.specs.Gives.{wave_at, Gives}
use Rattle.ca_flat.specs.declared.chip_defect.ChipDefect.{ChipDefect}
use Rattle.ca_flat.specs.Chip.{Chip, Constant, cell_at, count_of}
use Rattle.ca_flat.specs.Flat.{circuit_in}
use Rattle.ca_flat.specs.Pair.{constant_value}
use Rattle.ca_view.specs.Linked.{Reads, IsPlace}
use Rattle.ca_sim.specs.Current.{IsCurrent, IsSimulated, none_due}
use Rattle.ca_sim.specs.Changes.{IsWritten, HasReadersDue}
use Rattle.ca_places.specs.declared.place_set.PlaceSet.{PlaceSet}
use Rattle.ca_places.specs.PlaceSet.{Has, HoldsUpTo}
use Rattle.ca_sim.specs.Simulator.{counted_up}
use Rattle.ca_sim.specs.declared.network.Network.{Network}

-- the instance's place is in the set
abbrev pub IsDue : (ℕ → ℕ) → PlaceSet → ℕ → Type 0
IsDue place_of due u = Has due (place_of u)

-- a wave for each net, and room for each place; what is due are places of instances
pub record IsReady (chip : Chip) (place_of : ℕ → ℕ) (net : Network) : Type 0 where
  pub count : length net.waves ≡ length chip.nets
  pub are_waves : (n : ℕ) → IsWave (wave_at net.waves n)
  pub room : HoldsUpTo net.due (count_of chip + 1)
  pub within : (place : ℕ) → Has net.due place → IsPlace chip place_of place

-- A net is given a wave: its readers are due if that is another one, and all that was due.
pub record IsPut (chip : Chip) (place_of : ℕ → ℕ) (net : ℕ) (wave : Wave) (old new : Network) : Type 0 where
  pub count : length new.waves ≡ length old.waves
  pub here : wave_at new.waves net ≡ wave
  pub others : (other : ℕ) → other ≢ net → wave_at new.waves other ≡ wave_at old.waves other
  pub kept : (place : ℕ) → Has old.due place → Has new.due place
  pub readers : HasReadersDue chip (IsDue place_of new.due) old.waves new.waves
  pub added : (place : ℕ) → Has new.due place
      → Has old.due place ⊎ ((u : ℕ) × Reads chip u net × (place_of u ≡ place))
  pub room : (count : ℕ) → HoldsUpTo old.due count → HoldsUpTo new.due count

-- An instance's output nets are given their waves: the readers of those that change are due, at later places,
-- and all that was due.
pub record IsWrittenOut (chip : Chip) (place_of : ℕ → ℕ) (u : ℕ) (outputs : List Wave) (old new : Network)
    : Type 0 where
  pub written : IsWritten chip u outputs old.waves new.waves
  pub kept : (place : ℕ) → Has old.due place → Has new.due place
  pub readers : HasReadersDue chip (IsDue place_of new.due) old.waves new.waves
  pub added : (place : ℕ) → Has new.due place
      → Has old.due place ⊎ ((place_of u < place) × IsPlace chip place_of place)
  pub room : (count : ℕ) → HoldsUpTo old.due count → HoldsUpTo new.due count

-- the net of a chip input is given the wave of its bits
abbrev pub IsFedAt : Chip → (ℕ → ℕ) → ℕ → List Trit → Network → Network → Type 0
IsFedAt chip place_of input bits old new =
    IsPut chip place_of (slice_index chip.inputs input)
    (pair_of (value_at bits input) (value_at bits (length chip.inputs + input))) old new

-- the instance of the defect is due, and all that was due
pub record IsTurned (chip : Chip) (place_of : ℕ → ℕ) (given : Option ChipDefect) (old new : Network) : Type 0
  where
    pub waves : new.waves ≡ old.waves
    pub kept : (place : ℕ) → Has old.due place → Has new.due place
    pub here : (defect : ChipDefect) → given ≡ Some defect → Has new.due (place_of defect.instance)
    pub ready : IsReady chip place_of new

-- none is due: the waves of all nets for these bits, good or with the defect
pub record IsAtRest (chip : Chip) (place_of : ℕ → ℕ) (given : Option ChipDefect) (bits : List Trit)
    (net : Network) : Type 0 where
  pub ready : IsReady chip place_of net
  pub none : (place : ℕ) → Has net.due place → ⊥
  pub simulated : IsSimulated chip given bits none_due net.waves

-- the same of this instance alone
pub record IsTwinAt (chip : Chip) (u : ℕ) (net : Network) : Type 0 where
  pub count : length net.waves ≡ length chip.nets
  pub are_waves : (n : ℕ) → IsWave (wave_at net.waves n)
  pub current : IsCurrent chip None net.waves u

-- the instance gives these waves, which are waves
pub record IsGiven (chip : Chip) (given : Option ChipDefect) (u : ℕ) (pins outputs : List Wave) : Type 0 where
  pub gives : Gives (cell_at chip u) (circuit_in chip given u) pins outputs
  pub are_waves : All IsWave outputs
