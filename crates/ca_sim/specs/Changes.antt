-- Changes of the waves of nets, and what they make due.
use Rattle.std.specs.Prelude.{ℕ, ◌≡◌, ◌<◌, List, length}
use Rattle.ca_net.specs.declared.trit.Trit.{Trit}
use Rattle.ca_net.specs.declared.wave.Wave.{Wave}
use Rattle.ca_net.specs.declared.node.NodeKind.TheVariants.{Input}
use Rattle.ca_response.specs.Gives.{wave_at}
use Rattle.ca_flat.specs.Chip.{Chip, inputs_at, outputs_at, net_of, output_net, count_of, net_kind}
use Rattle.ca_flat.specs.Chain.{IsOutputOf}
use Rattle.ca_sim.specs.Current.{pair_wave}

-- the instance's output nets have these waves, and each other net has the wave that it had
pub record IsWritten (chip : Chip) (u : ℕ) (outputs old new : List Wave) : Type 0 where
  pub count : length new ≡ length old
  pub written : (output : ℕ) → output < outputs_at chip u
      → wave_at new (output_net chip u output) ≡ wave_at outputs output
  pub others : (net : ℕ) → (IsOutputOf chip u net → ⊥) → wave_at new net ≡ wave_at old net

-- an instance that isn't due has at its input nets the waves that it had
abbrev pub HasReadersDue : Chip → (ℕ → Type 0) → List Wave → List Wave → Type 0
HasReadersDue chip due old new =
    (u pin : ℕ) → u < count_of chip → (due u → ⊥) → pin < inputs_at chip u
    → wave_at new (net_of chip u pin) ≡ wave_at old (net_of chip u pin)
