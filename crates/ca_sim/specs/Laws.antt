-- Laws of the waves of nets.
use Rattle.std.specs.Prelude.{ℕ, ◌≡◌, ◌≢◌, ◌<◌, ◌↔◌, List, length, Option}
use Rattle.ca_net.specs.declared.trit.Trit.{Trit}
use Rattle.ca_net.specs.declared.trit.Trit.TheVariants.{X}
use Rattle.ca_net.specs.declared.wave.Wave.{Wave}
use Rattle.ca_response.specs.Gives.{wave_at}
use Rattle.ca_flat.specs.declared.chip_defect.ChipDefect.{ChipDefect}
use Rattle.ca_flat.specs.Chip.{Chip}
use Rattle.ca_flat.specs.Simulation.{IsFlattened}
use Rattle.ca_flat.specs.Pair.{NetEndsAt}
use Rattle.ca_flat.specs.Waves.{FlatWaves}
use Rattle.ca_sim.specs.Seen.{AreNetWaves}

-- the last value of a net is 0, or 1, exactly where every run of the flat network for the pair ends with it
-- there
abbrev pub DefiniteLastIsEnd : Type 0
DefiniteLastIsEnd =
    (chip : Chip) (rank : ℕ → ℕ) (given : Option ChipDefect) (pair : List Trit) (waves : List Wave) (net : ℕ)
    (v : Trit) → IsFlattened chip rank given → AreNetWaves chip given pair waves → net < length chip.nets
    → ((v ≢ X) × ((wave_at waves net).last ≡ v)) ↔ NetEndsAt chip given pair net v

-- there are limits, so that the waves are determined
abbrev pub WavesAreThere : Type 0
WavesAreThere =
    (chip : Chip) (rank : ℕ → ℕ) (given : Option ChipDefect) (pair : List Trit) → IsFlattened chip rank given
    → (FlatWaves chip given pair → ⊥) → ⊥
