-- Instances that are current, and those that are due.
use Rattle.std.specs.Prelude.{ℕ, zero, suc, ◌+◌, ◌≡◌, ◌<◌, List, [], ◌∷◌, length, Option, None}
use Rattle.ca_net.specs.declared.trit.Trit.{Trit}
use Rattle.ca_net.specs.declared.wave.Wave.{Wave}
use Rattle.ca_net.specs.declared.node.NodeKind.TheVariants.{Input}
use Rattle.ca_net.specs.Wave.{IsWave, pair_of}
use Rattle.ca_response.specs.Gives.{wave_at, Gives}
use Rattle.ca_flat.specs.declared.chip_defect.ChipDefect.{ChipDefect}
use Rattle.ca_flat.specs.Chip.{Chip, cell_at, inputs_at, outputs_at, net_of, output_net, count_of, net_kind}
use Rattle.ca_flat.specs.Chip.{Drives}
use Rattle.ca_flat.specs.Flat.{circuit_in}
use Rattle.ca_flat.specs.Pair.{net_value}
use Rattle.ca_flat.specs.Codes.{unset_pair}

-- the waves of the nets that this many pins are on, from a pin on
unfoldable pub waves_from : (ℕ → ℕ) → List Wave → ℕ → ℕ → List Wave
waves_from net waves pin zero = []
waves_from net waves pin (suc count) = wave_at waves (net pin) ∷ waves_from net waves (pin + 1) count

-- the waves of the input nets of the instance u, in pin order
abbrev pub input_waves : Chip → List Wave → ℕ → List Wave
input_waves chip waves u = waves_from (net_of chip u) waves 0 (inputs_at chip u)

-- those of its output nets
abbrev pub output_waves : Chip → List Wave → ℕ → List Wave
output_waves chip waves u = waves_from (output_net chip u) waves 0 (outputs_at chip u)

-- the output nets of the instance have the waves that its cell gives for those of its input nets
abbrev pub IsCurrent : Chip → Option ChipDefect → List Wave → ℕ → Type 0
IsCurrent chip given waves u =
    Gives (cell_at chip u) (circuit_in chip given u) (input_waves chip waves u) (output_waves chip waves u)

-- the wave of an input net for a partial pair: what the pair gives it, or its constant
abbrev pub pair_wave : Chip → List Trit → ℕ → Wave
pair_wave chip pair net = pair_of (net_value chip pair 0 net) (net_value chip pair (length chip.inputs) net)

-- a wave for each net; the input nets have those of the pair, and each instance that isn't due is current
pub record IsSimulated (chip : Chip) (given : Option ChipDefect) (pair : List Trit) (due : ℕ → Type 0)
    (waves : List Wave) : Type 0 where
  pub count : length waves ≡ length chip.nets
  pub are_waves : (net : ℕ) → IsWave (wave_at waves net)
  pub inputs : (net : ℕ) → net < length chip.nets → net_kind chip net ≡ Input
      → wave_at waves net ≡ pair_wave chip pair net
  pub current : (u : ℕ) → u < count_of chip → (due u → ⊥) → IsCurrent chip given waves u

-- nothing is due
abbrev pub none_due : ℕ → Type 0
none_due u = ⊥
