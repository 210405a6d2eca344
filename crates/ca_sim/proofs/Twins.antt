-- An instance without a defect that has the waves of the good network at its input pins.
use Rattle.std.proofs.Common.{◌≡◌, ℕ, List, Option, None, Some, Bool, true, false, refl, sym, ◌∙◌, subst}
use Rattle.std.specs.Prelude.{is_some}
use Rattle.ca_cell.specs.declared.defect.Defect.{Defect}
use Rattle.ca_net.specs.declared.wave.Wave.{Wave}
use Rattle.ca_net.specs.Wave.{IsWave}
use Rattle.std.specs.List.{All}
use Rattle.ca_flat.specs.declared.chip_defect.ChipDefect.{ChipDefect}
use Rattle.ca_flat.specs.Chip.{Chip, cell_at, circuit_at, output_net, outputs_at}
use Rattle.ca_flat.specs.Flat.{defect_at, with_defect, circuit_in}
use Rattle.ca_response.specs.Gives.{Gives}
use Rattle.ca_sim.specs.Current.{input_waves, output_waves}
use Rattle.ca_sim.specs.declared.network.Network.{Network}
use Rattle.ca_sim.specs.Network.{IsTwinAt, IsGiven}
use Rattle.ca_sim.proofs.WaveLemmas.{all_waves_from}

pub twin_gives : (chip : Chip) (o : Option ChipDefect) (u : ℕ) (net : Network) (pins outputs : List Wave) → IsTwinAt chip u net → defect_at o u ≡ None
    → input_waves chip net.waves u ≡ pins → outputs ≡ output_waves chip net.waves u → IsGiven chip o u pins outputs
twin_gives chip o u net pins outputs twin none pins_are outputs_are = record {
  gives = subst (Gives (cell_at chip u) (circuit_in chip o u) pins) (sym outputs_are)
      (subst (λ p. Gives (cell_at chip u) (circuit_in chip o u) p (output_waves chip net.waves u)) pins_are
      (subst (λ d. Gives (cell_at chip u) (with_defect (circuit_at chip u) d) (input_waves chip net.waves u) (output_waves chip net.waves u)) (sym none) twin.current));
  are_waves = subst (All IsWave) (sym outputs_are) (all_waves_from (output_net chip u) net.waves twin.are_waves (outputs_at chip u));
}

pub none_of : (o : Option Defect) (b : Bool) → b ≡ is_some o → b ≡ false → o ≡ None
none_of None b e f = refl
none_of (Some d) b e f = absurd (let k : true ≡ false = sym e ∙ f in cc)
