-- What only proofs of code cite: networks that settle, and those at hand beside another.
use Rattle.std.specs.Prelude.{ℕ, ◌+◌, ◌≡◌, ◌≢◌, ◌<◌, ◌≤◌, ◌⊎◌, List, length, slice_index, Option, None, Some}
use Rattle.std.specs.List.{All}
use Rattle.ca_net.specs.declared.trit.Trit.{Trit}
use Rattle.ca_net.specs.declared.trit.Trit.TheVariants.{X}
use Rattle.ca_net.specs.declared.wave.Wave.{Wave}
use Rattle.ca_net.specs.State.{value_at}
use Rattle.ca_net.specs.Wave.{IsWave, pair_of}
use Rattle.ca_response.specs.Gives.{wave_at, Gives}
use Rattle.ca_flat.specs.declared.chip_defect.ChipDefect.{ChipDefect}
use Rattle.ca_flat.specs.Chip.{Chip, Constant, cell_at, count_of}
use Rattle.ca_flat.specs.Flat.{circuit_in}
use Rattle.ca_flat.specs.Pair.{constant_value}
use Rattle.ca_view.specs.Linked.{Reads, IsPlace}
use Rattle.ca_sim.specs.Current.{IsCurrent, IsSimulated, none_due}
use Rattle.ca_sim.specs.Changes.{IsWritten, HasReadersDue}
use Rattle.ca_places.specs.declared.place_set.PlaceSet.{PlaceSet}
use Rattle.ca_places.specs.PlaceSet.{Has, HoldsUpTo}
use Rattle.ca_sim.specs.Simulator.{counted_up}
use Rattle.ca_sim.specs.declared.network.Network.{Network}
use Rattle.ca_sim.specs.Network.{IsDue, IsReady}

-- no place before this one is in the set
abbrev pub NoneBefore : PlaceSet → ℕ → Type 0
NoneBefore due end = (place : ℕ) → place < end → Has due place → ⊥

-- Whatever the pair is: where each instance that wasn't due was current, each is, and none is due.
pub record IsSettled (chip : Chip) (place_of : ℕ → ℕ) (given : Option ChipDefect)
    (old new : Network) : Type 0 where
  pub ready : IsReady chip place_of new
  pub none : (place : ℕ) → Has new.due place → ⊥
  pub current : (pair : List Trit) → IsSimulated chip given pair (IsDue place_of old.due) old.waves
      → IsSimulated chip given pair none_due new.waves

-- the network has the waves of these bits, but for instances that are due
pub record IsUnderway (chip : Chip) (place_of : ℕ → ℕ) (given : Option ChipDefect) (bits : List Trit)
    (net : Network) : Type 0 where
  pub ready : IsReady chip place_of net
  pub simulated : IsSimulated chip given bits (IsDue place_of net.due) net.waves

-- a network without a defect, each instance of which is current
pub record IsTwin (chip : Chip) (net : Network) : Type 0 where
  pub count : length net.waves ≡ length chip.nets
  pub are_waves : (n : ℕ) → IsWave (wave_at net.waves n)
  pub current : (u : ℕ) → u < count_of chip → IsCurrent chip None net.waves u

-- the wave of each net while no bit is set: that of its constant, else none is known
abbrev pub HasConstantsFrom : Chip → List Constant → List Wave → Type 0
HasConstantsFrom chip constants waves =
    (length waves ≡ length chip.nets)
    × ((net : ℕ) → net < length chip.nets
    → wave_at waves net ≡ pair_of (constant_value constants X net) (constant_value constants X net))

-- those of all constants
abbrev pub HasConstants : Chip → List Wave → Type 0
HasConstants chip waves = HasConstantsFrom chip chip.constants waves

-- the same waves, and nothing is due
pub record IsRestingCopy (chip : Chip) (old new : Network) : Type 0 where
  pub waves : new.waves ≡ old.waves
  pub none : (place : ℕ) → Has new.due place → ⊥
  pub room : HoldsUpTo new.due (count_of chip + 1)

-- where some place is due, at least one evaluation more is counted
abbrev pub CountsDue : Network → ℕ → ℕ → Type 0
CountsDue old before after = (place : ℕ) → Has old.due place → counted_up before ≤ after
