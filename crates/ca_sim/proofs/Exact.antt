-- Where no instance is due, the waves are those of the flat network.
use Rattle.std.proofs.Common.{◌≡◌, ◌↔◌, ℕ, zero, suc, ◌+◌, ◌<◌, List, ◌∷◌, length, Option, refl, sym, ◌∙◌, ap, arith}
use Rattle.ca_net.specs.declared.trit.Trit.{Trit}
use Rattle.ca_net.specs.declared.trit.Trit.TheVariants.{Zero, One, X}
use Rattle.ca_net.specs.declared.wave.Wave.{Wave}
use Rattle.ca_net.specs.State.{value_at}
use Rattle.ca_net.specs.Limits.{HasInputs}
use Rattle.ca_net.specs.Wave.{firsts, mids, lasts}
use Rattle.ca_parts.proofs.TritLemmas.{same_stable}
use Rattle.ca_parts.proofs.Compose.{shows_part}
use Rattle.ca_parts.proofs.RisingLimits.{limits_exist_lem}
use Rattle.ca_cell.specs.Exposes.{pin_vector}
use Rattle.ca_response.specs.Outputs.{wave_in, output_node}
use Rattle.ca_flat.specs.declared.chip_defect.ChipDefect.{ChipDefect}
use Rattle.ca_flat.specs.Chip.{Chip, cell_at, inputs_at, outputs_at, net_of, output_net, count_of}
use Rattle.ca_flat.specs.Flat.{circuit_in, place, flat}
use Rattle.ca_flat.specs.Pair.{flat_vector}
use Rattle.ca_flat.specs.Pair.{first_vector, middle_vector, last_vector, NetEndsAt}
use Rattle.ca_flat.specs.Waves.{FlatWaves, wave_of}
use Rattle.ca_flat.proofs.Places.{place_rail, place_pin}
use Rattle.ca_flat.proofs.Spots.{body}
use Rattle.ca_flat.proofs.Simulated.{input_low}
use Rattle.ca_flat.proofs.PairLemmas.{middle_under_first, middle_under_last}
use Rattle.ca_flat.proofs.NetInduction.{net_induction}
use Rattle.ca_flat.proofs.InstanceWaves.{at_instance, output_value, rail_value, input_wave, part_limits}
use Rattle.ca_flat.proofs.InstanceWaves.{ends_last, last_ends}
use Rattle.ca_response.specs.Gives.{wave_at}
use Rattle.ca_sim.specs.Current.{input_waves, output_waves, IsCurrent, IsSimulated}
use Rattle.ca_sim.specs.code.Current.{IsDrivenIn}
use Rattle.ca_flat.specs.Simulation.{IsFlattened}
use Rattle.ca_sim.specs.Current.{none_due}
use Rattle.ca_sim.specs.Laws.{DefiniteLastIsEnd, WavesAreThere}
use Rattle.ca_sim.specs.Seen.{AreNetWaves}
use Rattle.ca_sim.proofs.LimitLemmas.{SameInputs, limits_over, at_first_inputs}
use Rattle.ca_sim.proofs.WaveLemmas.{wave_at-waves_from, value_at-firsts, value_at-mids, value_at-lasts}

module _ (chip : Chip) (rank : ℕ → ℕ) (o : Option ChipDefect) (is : IsFlattened chip rank o) (pair : List Trit) (waves : List Wave) (flat_waves : FlatWaves chip o pair) where
  -- a frame of the waves at the instance's input nodes is a state of the flat network at the instance
  same_inputs : (u : ℕ) (values nets s : List Trit) → u < count_of chip → HasInputs (flat chip o) (flat_vector nets) s
      → ((pin : ℕ) → pin < inputs_at chip u → value_at s (2 + net_of chip u pin) ≡ value_at values pin)
      → SameInputs (circuit_in chip o u) (at_instance chip rank o is u s) (pin_vector (circuit_in chip o u) values)
  same_inputs u values nets s lt inputs pins = record {
    same = λ n i.
        let b = body chip rank o is.chip_is is.defect_is u lt in
        let counted = b.counted in
        let low = input_low chip rank o is.chip_is is.defect_is u n lt i in
        sym ((shows_part (circuit_in chip o u) (place chip u) s).values n i.0) ∙ at n low
        ∙ sym (at_first_inputs (circuit_in chip o u).nodes (One ∷ Zero ∷ values) n i.0 (λ m le. b.given m (omega arith)));
  }
    where
      at : (n : ℕ) → n < 2 + inputs_at chip u → value_at s (place chip u n) ≡ value_at (One ∷ Zero ∷ values) n
      at zero low = ap (value_at s) (place_rail chip u 0 (omega arith)) ∙ rail_value chip rank o is nets s inputs 0 (omega arith)
      at (suc zero) low = ap (value_at s) (place_rail chip u 1 (omega arith)) ∙ rail_value chip rank o is nets s inputs 1 (omega arith)
      at (suc (suc pin)) low = ap (value_at s) (place_pin chip u (suc (suc pin)) pin (omega arith) (omega arith)) ∙ pins pin (omega arith)

  input_at : (u pin : ℕ) → pin < inputs_at chip u → wave_at (input_waves chip waves u) pin ≡ wave_at waves (net_of chip u pin)
  input_at u pin within = wave_at-waves_from (net_of chip u) waves 0 (inputs_at chip u) pin within
      ∙ ap (λ k. wave_at waves (net_of chip u k)) (let e : 0 + pin ≡ pin = omega arith in e)

  output_at : (u output : ℕ) → output < outputs_at chip u → wave_at (output_waves chip waves u) output ≡ wave_at waves (output_net chip u output)
  output_at u output within = wave_at-waves_from (output_net chip u) waves 0 (outputs_at chip u) output within
      ∙ ap (λ k. wave_at waves (output_net chip u k)) (let e : 0 + output ≡ output = omega arith in e)

  -- an instance that is current and has the waves of the flat network at its pins has them at its outputs
  step : (u : ℕ) → u < count_of chip → IsCurrent chip o waves u → ((pin : ℕ) → pin < inputs_at chip u → wave_at waves (net_of chip u pin) ≡ wave_of flat_waves (net_of chip u pin))
      → (output : ℕ) → output < outputs_at chip u → wave_at waves (output_net chip u output) ≡ wave_of flat_waves (output_net chip u output)
  step u lt current pins output within =
      let own : List Trit → List Trit = at_instance chip rank o is u in
      let part = part_limits chip rank o is pair flat_waves u lt in
      let shown = λ (pin : ℕ) (k : pin < inputs_at chip u). sym (pins pin k) ∙ sym (input_at u pin k) in
      let limits = limits_over (circuit_in chip o u) _ _ _ _ _ _ (own flat_waves.first) (own flat_waves.middle) (own flat_waves.last)
      (same_inputs u (firsts (input_waves chip waves u)) _ flat_waves.first lt flat_waves.limits.is_first.fixed.inputs
      (λ pin k. ap (λ (w : Wave). w.first) (shown pin k) ∙ sym (value_at-firsts (input_waves chip waves u) pin)))
      (same_inputs u (mids (input_waves chip waves u)) _ flat_waves.middle lt flat_waves.limits.is_middle.held.inputs
      (λ pin k. ap (λ (w : Wave). w.mid) (shown pin k) ∙ sym (value_at-mids (input_waves chip waves u) pin)))
      (same_inputs u (lasts (input_waves chip waves u)) _ flat_waves.last lt flat_waves.limits.is_last.fixed.inputs
      (λ pin k. ap (λ (w : Wave). w.last) (shown pin k) ∙ sym (value_at-lasts (input_waves chip waves u) pin)))
      part in
      let first_is = output_value chip rank o is u output flat_waves.first lt within in
      let middle_is = output_value chip rank o is u output flat_waves.middle lt within in
      let last_is = output_value chip rank o is u output flat_waves.last lt within in
      let given : wave_at (output_waves chip waves u) output ≡ wave_in (own flat_waves.first) (own flat_waves.middle) (own flat_waves.last) (output_node (cell_at chip u) output) =
      current.each (own flat_waves.first) (own flat_waves.middle) (own flat_waves.last) limits output within in
      let net_is : wave_in (own flat_waves.first) (own flat_waves.middle) (own flat_waves.last) (output_node (cell_at chip u) output) ≡ wave_of flat_waves (output_net chip u output) = cc in
      sym (output_at u output within) ∙ given ∙ net_is

  -- A set of instances, each of which is current, and which has with an instance those that drive its input
  -- nets: a net that none but these drives has the wave of the flat network.
  module _ (due In : ℕ → Type 0) (sim : IsSimulated chip o pair due waves) (current : (u : ℕ) → u < count_of chip → In u → due u → ⊥)
      (closed : (u pin : ℕ) → u < count_of chip → In u → pin < inputs_at chip u → IsDrivenIn chip In (net_of chip u pin)) where
    exact_in : (net : ℕ) → net < length chip.nets → IsDrivenIn chip In net → wave_at waves net ≡ wave_of flat_waves net
    exact_in = net_induction chip rank is.chip_is (λ net. IsDrivenIn chip In net → wave_at waves net ≡ wave_of flat_waves net)
        (λ net within kind driven. sim.inputs net within kind ∙ sym (input_wave chip rank o is pair flat_waves net within kind))
        (λ u lt pins output within driven.
        let inside = driven (record { instance = u; output = output; known = lt; within = within; on = refl }) in
        step u lt (sim.current u lt (current u lt inside)) (λ pin k. pins pin k (closed u pin lt inside k)) output within)

pub exact_where_driven : (chip : Chip) (rank : ℕ → ℕ) (o : Option ChipDefect) (pair : List Trit) (waves : List Wave) (due In : ℕ → Type 0)
    → IsFlattened chip rank o → IsSimulated chip o pair due waves → ((u : ℕ) → u < count_of chip → In u → due u → ⊥)
    → ((u pin : ℕ) → u < count_of chip → In u → pin < inputs_at chip u → IsDrivenIn chip In (net_of chip u pin))
    → (flat_waves : FlatWaves chip o pair) (net : ℕ) → net < length chip.nets → IsDrivenIn chip In net → wave_at waves net ≡ wave_of flat_waves net
exact_where_driven chip rank o pair waves due In is sim current closed flat_waves =
    exact_in chip rank o is pair waves flat_waves due In sim current closed

pub waves_are_exact_lem : (chip : Chip) (rank : ℕ → ℕ) (o : Option ChipDefect) (pair : List Trit) (waves : List Wave) → IsFlattened chip rank o
    → IsSimulated chip o pair none_due waves → AreNetWaves chip o pair waves
waves_are_exact_lem chip rank o pair waves is sim = record {
  count = sim.count;
  exact = λ flat_waves net within. exact_where_driven chip rank o pair waves none_due (λ u. Unit {0}) is sim
      (λ u lt all due. due) (λ u pin lt all k drives. tt) flat_waves net within (λ drives. tt);
}

pub waves_are_there_lem : WavesAreThere
waves_are_there_lem chip rank o pair is none =
    limits_exist_lem (flat chip o) (first_vector chip pair) (middle_vector chip pair) (last_vector chip pair) is.formed
    (λ n i. middle_under_first chip pair n) (λ n i. middle_under_last chip pair n)
    (λ first middle last limits. none (record { first = first; middle = middle; last = last; limits = limits }))

-- a wave that is that of the flat network ends with a value exactly where every run does
pub last_is_end_where : (chip : Chip) (rank : ℕ → ℕ) (o : Option ChipDefect) (pair : List Trit) (waves : List Wave) (net : ℕ) (v : Trit) → IsFlattened chip rank o
    → ((flat_waves : FlatWaves chip o pair) → wave_at waves net ≡ wave_of flat_waves net) → net < length chip.nets
    → ((v ≡ X → ⊥) × ((wave_at waves net).last ≡ v)) ↔ NetEndsAt chip o pair net v
last_is_end_where chip rank o pair waves net v is are within = (ends, shows)
  where
    last_is : (flat_waves : FlatWaves chip o pair) → (wave_at waves net).last ≡ (wave_of flat_waves net).last
    last_is flat_waves = ap (λ (w : Wave). w.last) (are flat_waves)

    ends : (v ≡ X → ⊥) × ((wave_at waves net).last ≡ v) → NetEndsAt chip o pair net v
    ends h = record {
      definite = h.0;
      every_run = λ last run. same_stable (value_at last (2 + net)) v (λ out. waves_are_there_lem chip rank o pair is (λ flat_waves.
          out ((last_ends chip rank o is pair flat_waves net v within h.0 (sym (last_is flat_waves) ∙ h.1)).every_run last run)));
    }

    shows : NetEndsAt chip o pair net v → (v ≡ X → ⊥) × ((wave_at waves net).last ≡ v)
    shows end = (
      end.definite,
      same_stable (wave_at waves net).last v (λ out. waves_are_there_lem chip rank o pair is (λ flat_waves.
          out (last_is flat_waves ∙ ends_last chip rank o is pair flat_waves net v within end))),
    )

pub definite_last_is_end_lem : DefiniteLastIsEnd
definite_last_is_end_lem chip rank o pair waves net v is are within =
    last_is_end_where chip rank o pair waves net v is (λ flat_waves. are.exact flat_waves net within) within
