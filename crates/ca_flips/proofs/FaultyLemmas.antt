-- The faulty lasts of the defect's instance, by the good waves of its input nets.
use Rattle.std.proofs.Common.{◌≡◌, ℕ, zero, suc, ◌+◌, ◌<◌, List, [], ◌∷◌, None, Some, refl, sym, ◌∙◌, ap, subst}
use Rattle.std.specs.Prelude.{slice_index_or}
use Rattle.ca_net.specs.declared.trit.Trit.{Trit}
use Rattle.ca_net.specs.declared.wave.Wave.{Wave}
use Rattle.ca_net.specs.Circuit.{Circuit, IsInput}
use Rattle.ca_net.specs.State.{value_at}
use Rattle.ca_net.specs.Limits.{HasInputs, AreLimits}
use Rattle.ca_net.specs.Wave.{firsts, mids, lasts}
use Rattle.ca_parts.proofs.RisingLimits.{limits_over}
use Rattle.ca_cell.specs.Exposes.{pin_vector}
use Rattle.ca_flat.specs.declared.chip_defect.ChipDefect.{ChipDefect}
use Rattle.ca_flat.specs.Chip.{Chip, inputs_at, outputs_at, net_of, output_net}
use Rattle.ca_flat.specs.Flat.{circuit_in, flat}
use Rattle.ca_flat.specs.Pair.{flat_vector}
use Rattle.ca_flat.specs.Waves.{FlatWaves, wave_of, unknown_wave, IsFlatChip}
use Rattle.ca_flat.proofs.Detected.{faulty_here, faulty_flat, pins_same}
use Rattle.ca_flat.proofs.InstanceWaves.{at_instance, output_value, part_limits}
use Rattle.ca_flips.specs.Flips.{ArePinWaves, IsFaultyLast, lasts_of}
use Rattle.ca_flips.specs.Laws.{FaultyLastIsGiven}
use Rattle.ca_flips.proofs.PinLemmas.{vector_against}

first_at : (pins : List Wave) (pin : ℕ) → value_at (firsts pins) pin ≡ (slice_index_or pins pin unknown_wave).first
first_at [] pin = refl
first_at (wave ∷ pins) zero = refl
first_at (wave ∷ pins) (suc pin) = first_at pins pin

mid_at : (pins : List Wave) (pin : ℕ) → value_at (mids pins) pin ≡ (slice_index_or pins pin unknown_wave).mid
mid_at [] pin = refl
mid_at (wave ∷ pins) zero = refl
mid_at (wave ∷ pins) (suc pin) = mid_at pins pin

last_at : (pins : List Wave) (pin : ℕ) → value_at (lasts pins) pin ≡ (slice_index_or pins pin unknown_wave).last
last_at [] pin = refl
last_at (wave ∷ pins) zero = refl
last_at (wave ∷ pins) (suc pin) = last_at pins pin

module _ (chip : Chip) (rank : ℕ → ℕ) (defect : ChipDefect) (is : IsFlatChip chip rank defect) (pair : List Trit) (good : FlatWaves chip None pair)
    (faulty : FlatWaves chip (Some defect) pair) (pins : List Wave) (pin_waves : ArePinWaves chip (wave_of good) defect.instance pins) where
  -- the waves of the list are those of the faulty network too
  pin_wave : (pin : ℕ) → pin < inputs_at chip defect.instance → slice_index_or pins pin unknown_wave ≡ wave_of faulty (net_of chip defect.instance pin)
  pin_wave pin k = pin_waves.each pin k ∙ pins_same chip rank defect is pair good faulty pin k

  same_input : (a nets s : List Trit) → HasInputs (flat chip (Some defect)) (flat_vector nets) s
      → ((pin : ℕ) → pin < inputs_at chip defect.instance → value_at a pin ≡ value_at s (2 + net_of chip defect.instance pin))
      → (n : ℕ) → IsInput (circuit_in chip (Some defect) defect.instance) n
      → value_at (at_instance chip rank (Some defect) (faulty_flat chip rank defect is) defect.instance s) n ≡ value_at (pin_vector (circuit_in chip (Some defect) defect.instance) a) n
  same_input a nets s inputs each n i = sym (vector_against chip rank (Some defect) (faulty_flat chip rank defect is) defect.instance is.defect_is.known
      (λ x y. x ≡ y) a nets s inputs refl refl each n i)

  own : List Trit → List Trit
  own s = at_instance chip rank (Some defect) (faulty_flat chip rank defect is) defect.instance s

  abbrev LimitsOver : Circuit → Type 0
  LimitsOver c = AreLimits c (pin_vector c (firsts pins)) (pin_vector c (mids pins)) (pin_vector c (lasts pins)) (own faulty.first) (own faulty.middle) (own faulty.last)

  limits_here : LimitsOver (circuit_in chip (Some defect) defect.instance)
  unfolding own
  limits_here = limits_over (circuit_in chip (Some defect) defect.instance) _ _ _ _ _ _ _ _ _
      (same_input (firsts pins) _ faulty.first faulty.limits.is_first.fixed.inputs (λ pin k. first_at pins pin ∙ ap (λ (w : Wave). w.first) (pin_wave pin k)))
      (same_input (mids pins) _ faulty.middle faulty.limits.is_middle.held.inputs (λ pin k. mid_at pins pin ∙ ap (λ (w : Wave). w.mid) (pin_wave pin k)))
      (same_input (lasts pins) _ faulty.last faulty.limits.is_last.fixed.inputs (λ pin k. last_at pins pin ∙ ap (λ (w : Wave). w.last) (pin_wave pin k)))
      (part_limits chip rank (Some defect) (faulty_flat chip rank defect is) pair faulty defect.instance is.defect_is.known)

  pub faulty_last : (output : ℕ) (v : Trit) → output < outputs_at chip defect.instance → IsFaultyLast chip defect pins output v
      → lasts_of faulty (output_net chip defect.instance output) ≡ v
  unfolding own
  faulty_last output v within given =
      sym (output_value chip rank (Some defect) (faulty_flat chip rank defect is) defect.instance output faulty.last is.defect_is.known within)
      ∙ given _ _ _ (subst LimitsOver (faulty_here chip defect) limits_here)

pub faulty_last_is_given_lem : FaultyLastIsGiven
faulty_last_is_given_lem chip rank defect pair good faulty pins output v is pin_waves within given = faulty_last chip rank defect is pair good faulty pins pin_waves output v within given
