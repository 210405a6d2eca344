-- The limits of an instance in the flat network, against vectors of its input pins.
use Rattle.std.proofs.Common.{◌≡◌, ℕ, zero, suc, ◌+◌, ◌<◌, List, [], ◌∷◌, length, Option, inl, inr, refl, sym, ◌∙◌}
use Rattle.std.proofs.Common.{ap, subst, arith}
use Rattle.ca_net.specs.declared.trit.Trit.{Trit}
use Rattle.ca_net.specs.declared.trit.Trit.TheVariants.{Zero, One}
use Rattle.ca_net.specs.Trit.{IsBelow}
use Rattle.ca_net.specs.Circuit.{Circuit, IsInput}
use Rattle.ca_net.specs.State.{value_at}
use Rattle.ca_net.specs.PairRun.{EndsAt}
use Rattle.ca_net.specs.Limits.{HasInputs}
use Rattle.ca_parts.specs.Composition.{InputsUnder}
use Rattle.ca_parts.proofs.Compose.{shows_part}
use Rattle.ca_cell.specs.Exposes.{pin_vector}
use Rattle.ca_flat.specs.declared.chip_defect.ChipDefect.{ChipDefect}
use Rattle.ca_flat.specs.Chip.{Chip, cell_at, circuit_at, inputs_at, outputs_at, net_of, output_net, count_of}
use Rattle.ca_flat.specs.Flat.{circuit_in, place, flat}
use Rattle.ca_flat.specs.Pair.{flat_vector}
use Rattle.ca_flat.specs.Simulation.{IsFlattened}
use Rattle.ca_flat.specs.Waves.{FlatWaves}
use Rattle.ca_flat.proofs.Places.{place_rail, place_pin}
use Rattle.ca_flat.proofs.Shapes.{IsCellCircuit}
use Rattle.ca_flat.proofs.Spots.{body}
use Rattle.ca_flat.proofs.PairLemmas.{value_at-values_from}
use Rattle.ca_flat.proofs.InstanceWaves.{at_instance, output_value, rail_value, pin_middle_below_first}
use Rattle.ca_flat.proofs.InstanceWaves.{pin_middle_below_last, part_limits}
use Rattle.ca_flips.specs.Static.{EndsByLast}
use Rattle.ca_flips.specs.Flips.{vector_at, lasts_of}
use Rattle.ca_flips.proofs.CellLemmas.{input_low, vector_value, last_is, last_below}

-- the values of the input nets are at their places
pub vector_at_pin : (chip : Chip) (w : ℕ) (values : ℕ → Trit) (pin : ℕ) → pin < inputs_at chip w → value_at (vector_at chip w values) pin ≡ values (net_of chip w pin)
vector_at_pin chip w values pin within = value_at-values_from (λ pin. values (net_of chip w pin)) 0 (inputs_at chip w) pin within
    ∙ ap (λ n. values (net_of chip w n)) (let e : 0 + pin ≡ pin = omega arith in e)

module _ (chip : Chip) (rank : ℕ → ℕ) (o : Option ChipDefect) (flattened : IsFlattened chip rank o) (w : ℕ) (lt : w < count_of chip) where
  cell : IsCellCircuit (inputs_at chip w) (outputs_at chip w) (circuit_in chip o w)
  cell = body chip rank o flattened.chip_is flattened.defect_is w lt

  -- what holds between the rails, and between the values of a vector and those of the input nets, holds at the
  -- input nodes of the instance
  pub vector_against : (R : Trit → Trit → Type 0) (a nets s : List Trit) → HasInputs (flat chip o) (flat_vector nets) s → R One One → R Zero Zero
      → ((pin : ℕ) → pin < inputs_at chip w → R (value_at a pin) (value_at s (2 + net_of chip w pin)))
      → (n : ℕ) → IsInput (circuit_in chip o w) n → R (value_at (pin_vector (circuit_in chip o w) a) n) (value_at (at_instance chip rank o flattened w s) n)
  vector_against R a nets s inputs one ground pins n i =
      let low = input_low (circuit_in chip o w) (inputs_at chip w) (outputs_at chip w) cell n i in
      subst (λ x. R (value_at (pin_vector (circuit_in chip o w) a) n) x) ((shows_part (circuit_in chip o w) (place chip w) s).values n i.0)
      (subst (λ x. R x (value_at s (place chip w n))) (sym (vector_value (circuit_in chip o w) (inputs_at chip w) (outputs_at chip w) cell a n low)) (at n low))
    where
      at : (n : ℕ) → n < 2 + inputs_at chip w → R (value_at (One ∷ Zero ∷ a) n) (value_at s (place chip w n))
      at zero low = subst (R One) (sym (ap (value_at s) (place_rail chip w 0 (omega arith)) ∙ rail_value chip rank o flattened nets s inputs 0 (omega arith))) one
      at (suc zero) low = subst (R Zero) (sym (ap (value_at s) (place_rail chip w 1 (omega arith)) ∙ rail_value chip rank o flattened nets s inputs 1 (omega arith))) ground
      at (suc (suc pin)) low = subst (λ x. R (value_at a pin) (value_at s x)) (sym (place_pin chip w (suc (suc pin)) pin (omega arith) (omega arith))) (pins pin (omega arith))

  -- the instance has its cell without a defect
  module _ (pair : List Trit) (waves : FlatWaves chip o pair) (same : circuit_at chip w ≡ circuit_in chip o w) (values : ℕ → Trit)
      (output : ℕ) (v : Trit) (within : output < outputs_at chip w) (ends : EndsByLast (cell_at chip w) (vector_at chip w values) output v) where
    ends_here : EndsAt (circuit_in chip o w) (pin_vector (circuit_in chip o w) []) (pin_vector (circuit_in chip o w) (vector_at chip w values)) (2 + inputs_at chip w + output) v
    ends_here = subst (λ (c : Circuit). EndsAt c (pin_vector c []) (pin_vector c (vector_at chip w values)) (2 + inputs_at chip w + output) v) same ends

    inside : 2 + inputs_at chip w + output < length (circuit_in chip o w).nodes
    inside = let k = cell.counted in omega arith

    first_over : InputsUnder (circuit_in chip o w) (pin_vector (circuit_in chip o w) []) (at_instance chip rank o flattened w waves.first)
    first_over = vector_against IsBelow [] _ waves.first waves.limits.is_first.fixed.inputs (inr refl) (inr refl) (λ pin k. inl refl)

    middle_over : InputsUnder (circuit_in chip o w) (pin_vector (circuit_in chip o w) []) (at_instance chip rank o flattened w waves.middle)
    middle_over = vector_against IsBelow [] _ waves.middle waves.limits.is_middle.held.inputs (inr refl) (inr refl) (λ pin k. inl refl)

    -- where the lasts of the input nets are at or above the values, v is the last of the output net
    pub output_is : ((pin : ℕ) → pin < inputs_at chip w → IsBelow (values (net_of chip w pin)) (lasts_of waves (net_of chip w pin)))
        → lasts_of waves (output_net chip w output) ≡ v
    output_is pins =
        sym (output_value chip rank o flattened w output waves.last lt within)
        ∙ last_is (circuit_in chip o w) cell.formed _ _ (2 + inputs_at chip w + output) v inside ends_here _ _ _ _ _ _ first_over middle_over
        (vector_against IsBelow (vector_at chip w values) _ waves.last waves.limits.is_last.fixed.inputs (inr refl) (inr refl)
        (λ pin k. subst (λ x. IsBelow x (lasts_of waves (net_of chip w pin))) (sym (vector_at_pin chip w values pin k)) (pins pin k)))
        (λ n i. pin_middle_below_first chip rank o flattened pair waves w lt n) (part_limits chip rank o flattened pair waves w lt)

    -- where they are at or below the values, so is the last of the output net
    pub output_below : ((pin : ℕ) → pin < inputs_at chip w → IsBelow (lasts_of waves (net_of chip w pin)) (values (net_of chip w pin)))
        → IsBelow (lasts_of waves (output_net chip w output)) v
    output_below pins =
        subst (λ x. IsBelow x v) (output_value chip rank o flattened w output waves.last lt within)
        (last_below (circuit_in chip o w) cell.formed _ _ (2 + inputs_at chip w + output) v inside ends_here _ _ _ _ _ _ first_over middle_over
        (vector_against (λ x y. IsBelow y x) (vector_at chip w values) _ waves.last waves.limits.is_last.fixed.inputs (inr refl) (inr refl)
        (λ pin k. subst (λ x. IsBelow (lasts_of waves (net_of chip w pin)) x) (sym (vector_at_pin chip w values pin k)) (pins pin k)))
        (λ n i. pin_middle_below_first chip rank o flattened pair waves w lt n) (pin_middle_below_last chip rank o flattened pair waves w lt)
        (part_limits chip rank o flattened pair waves w lt))
