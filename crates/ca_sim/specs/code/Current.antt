-- What only proofs of code cite: waves without bits, and nets by their drivers.
use Rattle.std.specs.Prelude.{ℕ, zero, suc, ◌+◌, ◌≡◌, ◌<◌, List, [], ◌∷◌, length, Option, None}
use Rattle.ca_net.specs.declared.trit.Trit.{Trit}
use Rattle.ca_net.specs.declared.wave.Wave.{Wave}
use Rattle.ca_net.specs.declared.node.NodeKind.TheVariants.{Input}
use Rattle.ca_net.specs.Wave.{IsWave, pair_of}
use Rattle.ca_response.specs.Gives.{wave_at, Gives}
use Rattle.ca_flat.specs.declared.chip_defect.ChipDefect.{ChipDefect}
use Rattle.ca_flat.specs.Chip.{Chip, cell_at, inputs_at, outputs_at, net_of, output_net, count_of, net_kind}
use Rattle.ca_flat.specs.Chip.{Drives}
use Rattle.ca_flat.specs.Flat.{circuit_in}
use Rattle.ca_flat.specs.Pair.{net_value}
use Rattle.ca_flat.specs.Codes.{unset_pair}
use Rattle.ca_sim.specs.Current.{IsSimulated, none_due}

-- each instance that drives the net is one of these
abbrev pub IsDrivenIn : Chip → (ℕ → Type 0) → ℕ → Type 0
IsDrivenIn chip in_set net = (drives : Drives chip net) → in_set drives.instance

-- the waves of the good network while no bit is set
abbrev pub AreUnset : Chip → List Wave → Type 0
AreUnset chip waves = IsSimulated chip None (unset_pair chip) none_due waves
