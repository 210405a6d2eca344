-- What only proofs of code cite: the good network and the one with a defect, with the bits that both have.
use Rattle.std.specs.Prelude.{ℕ, ◌+◌, ◌≡◌, ◌≢◌, ◌⊎◌, length, slice_index, Option, None}
use Rattle.ca_net.specs.declared.trit.Trit.{Trit}
use Rattle.ca_net.specs.State.{value_at}
use Rattle.ca_flat.specs.declared.chip_defect.ChipDefect.{ChipDefect}
use Rattle.ca_flat.specs.Chip.{Chip}
use Rattle.ca_flat.specs.Pair.{bit_count}
use Rattle.ca_view.specs.Linked.{Reads}
use Rattle.ca_sim.specs.Network.{IsDue, IsReady, IsAtRest}
use Rattle.ca_sim.specs.code.Network.{IsUnderway}
use Rattle.ca_sim.specs.declared.networks.Networks.{Networks}

-- there is room in both, and a value for each bit
pub record AreReady (chip : Chip) (place_of : ℕ → ℕ) (nets : Networks) : Type 0 where
  pub bits : length nets.bits ≡ bit_count chip
  pub good : IsReady chip place_of nets.good
  pub faulty : IsReady chip place_of nets.faulty

-- both have the waves of the bits, but for instances that are due
pub record AreUnderway (chip : Chip) (place_of : ℕ → ℕ) (aim : Option ChipDefect) (nets : Networks) : Type 0
  where
    pub bits : length nets.bits ≡ bit_count chip
    pub good : IsUnderway chip place_of None nets.bits nets.good
    pub faulty : IsUnderway chip place_of aim nets.bits nets.faulty

-- both have the waves of the bits
pub record AreAtRest (chip : Chip) (place_of : ℕ → ℕ) (aim : Option ChipDefect) (nets : Networks) : Type 0
  where
    pub bits : length nets.bits ≡ bit_count chip
    pub good : IsAtRest chip place_of None nets.bits nets.good
    pub faulty : IsAtRest chip place_of aim nets.bits nets.faulty

-- where one of the two bits of a chip input changes, the instances that read it are due in the good network
abbrev pub MakesReadersDue : Chip → (ℕ → ℕ) → ℕ → Trit → Trit → Networks → Networks → Type 0
MakesReadersDue chip place_of input first last old new =
    (u : ℕ) → Reads chip u (slice_index chip.inputs input)
    → (first ≢ value_at old.bits input) ⊎ (last ≢ value_at old.bits (length chip.inputs + input))
    → IsUnderway chip place_of None old.bits old.good → IsDue place_of new.good.due u
