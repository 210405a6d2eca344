-- What only proofs of code cite: input nets that are given their waves.
use Rattle.std.specs.Prelude.{ℕ, ◌≡◌, ◌<◌, List, length}
use Rattle.ca_net.specs.declared.trit.Trit.{Trit}
use Rattle.ca_net.specs.declared.wave.Wave.{Wave}
use Rattle.ca_net.specs.declared.node.NodeKind.TheVariants.{Input}
use Rattle.ca_response.specs.Gives.{wave_at}
use Rattle.ca_flat.specs.Chip.{Chip, inputs_at, outputs_at, net_of, output_net, count_of, net_kind}
use Rattle.ca_flat.specs.Chain.{IsOutputOf}
use Rattle.ca_sim.specs.Current.{pair_wave}

-- the input nets have the waves of the pair, and each other net has the wave that it had
pub record IsFed (chip : Chip) (pair : List Trit) (old new : List Wave) : Type 0 where
  pub count : length new ≡ length old
  pub fed : (net : ℕ) → net < length chip.nets → net_kind chip net ≡ Input
      → wave_at new net ≡ pair_wave chip pair net
  pub others : (net : ℕ) → net < length chip.nets → (net_kind chip net ≡ Input → ⊥)
      → wave_at new net ≡ wave_at old net
