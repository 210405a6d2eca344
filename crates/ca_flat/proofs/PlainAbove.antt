-- Plain two-frame values are at or above the waves: a vector over the plain values of an instance's input pins
-- is over their waves, so each row of such vectors gives what the wave has.
use Rattle.std.proofs.Common.{◌≡◌, ℕ, ◌+◌, ◌<◌, List, length, None, inl, inr, refl, sym, ◌∙◌, ap, arith}
use Rattle.ca_net.specs.declared.trit.Trit.{Trit}
use Rattle.ca_net.specs.declared.trit.Trit.TheVariants.{Zero, One, X}
use Rattle.ca_net.specs.Trit.{IsBelow}
use Rattle.ca_net.specs.Circuit.{IsWellFormed}
use Rattle.ca_net.specs.State.{value_at}
use Rattle.ca_net.proofs.StateLemmas.{IsBelow-trans}
use Rattle.ca_parts.proofs.EndLaws.{ends_are_unique_lem}
use Rattle.ca_cell.specs.Exposes.{opposite_of, pin_vector}
use Rattle.ca_flat.specs.Chip.{Chip, circuit_at, inputs_at, outputs_at, net_of, output_net, count_of, IsChip}
use Rattle.ca_flat.specs.Flat.{flat}
use Rattle.ca_flat.specs.Waves.{FlatWaves, wave_of, IsOverFirsts, IsOverLasts}
use Rattle.ca_flat.specs.TwoFrame.{IsCommon, IsVectorOver, FirstRowsGive, LastRowsGive, AreTwoFrame}
use Rattle.ca_flat.specs.PlainWaves.{IsBelowPlain, WavesAreBelowPlain, SuspectIsAllowed}
use Rattle.ca_flat.proofs.Shapes.{IsCellCircuit}
use Rattle.ca_flat.proofs.Spots.{body}
use Rattle.ca_flat.proofs.Clashes.{opposite_differs}
use Rattle.ca_flat.specs.Simulation.{IsFlattened}
use Rattle.ca_flat.proofs.InstanceWaves.{input_wave}
use Rattle.ca_flat.proofs.NetInduction.{net_induction}
use Rattle.ca_flat.proofs.Rows.{row_ends, steady_row_ends}
use Rattle.ca_flat.proofs.Filled.{fill, fill_definite, fill_above}

-- a value is below another that it is, where it is definite
below_if : (low high : Trit) → ((low ≡ X → ⊥) → low ≡ high) → IsBelow low high
below_if X high same = inl refl
below_if Zero high same = inr (same (λ e. cc))
below_if One high same = inr (same (λ e. cc))

-- a definite value that is given, and whose opposite isn't, is the common one
common_is : (gives : Trit → Type 0) (v value : Trit) → (v ≡ X → ⊥) → gives v → (gives (opposite_of v) → ⊥) → IsCommon gives value → v ≡ value
common_is gives Zero Zero definite given other common = refl
common_is gives Zero One definite given other common = absurd (other common)
common_is gives Zero X definite given other common = absurd (common.0 given)
common_is gives One Zero definite given other common = absurd (other common)
common_is gives One One definite given other common = refl
common_is gives One X definite given other common = absurd (common.1 given)
common_is gives X value definite given other common = absurd (definite refl)

module _ (chip : Chip) (rank : ℕ → ℕ) (pair firsts lasts : List Trit) (good : FlatWaves chip None pair) (is : IsChip chip rank) (formed : IsWellFormed (flat chip None))
    (plain : AreTwoFrame chip pair firsts lasts) where
  good_is : IsFlattened chip rank None
  good_is = record { chip_is = is; defect_is = tt; formed = formed }

  abbrev Below : ℕ → Type 0
  Below net = IsBelowPlain (wave_of good net) (value_at firsts net) (value_at lasts net)

  module _ (u : ℕ) (pins : (pin : ℕ) → pin < inputs_at chip u → Below (net_of chip u pin)) where
    -- a vector over the plain values of the input pins is over their waves
    over_firsts : (a : List Trit) → IsVectorOver chip u firsts a → IsOverFirsts good u a
    over_firsts a over pin within = IsBelow-trans _ _ _ (pins pin within).first_below (over.over pin within)

    over_lasts : (b : List Trit) → IsVectorOver chip u lasts b → IsOverLasts good u b
    over_lasts b over pin within = IsBelow-trans _ _ _ (pins pin within).last_below (over.over pin within)

    a : List Trit
    a = fill chip u (λ pin. value_at firsts (net_of chip u pin))

    b : List Trit
    b = fill chip u (λ pin. value_at lasts (net_of chip u pin))

    a_over : IsVectorOver chip u firsts a
    unfolding a
    a_over = record {
      definite = fill_definite chip u (λ pin. value_at firsts (net_of chip u pin));
      over = fill_above chip u (λ pin. value_at firsts (net_of chip u pin));
    }

    b_over : IsVectorOver chip u lasts b
    unfolding b
    b_over = record {
      definite = fill_definite chip u (λ pin. value_at lasts (net_of chip u pin));
      over = fill_above chip u (λ pin. value_at lasts (net_of chip u pin));
    }

    module _ (lt : u < count_of chip) (output : ℕ) (within : output < outputs_at chip u) where
      cell : IsCellCircuit (inputs_at chip u) (outputs_at chip u) (circuit_at chip u)
      cell = body chip rank None is tt u lt

      inside : 2 + inputs_at chip u + output < length (circuit_at chip u).nodes
      inside = let k = cell.counted in omega arith

      -- each row of one vector gives a definite first value of the wave, and none of them the opposite
      first_same : (v : Trit) → (v ≡ X → ⊥) → (wave_of good (output_net chip u output)).first ≡ v → v ≡ value_at firsts (output_net chip u output)
      first_same v definite wave =
          let given : FirstRowsGive chip u firsts output v = λ row over.
          steady_row_ends chip rank None good_is pair good u lt row (over_firsts row over) output v within definite wave in
          common_is (FirstRowsGive chip u firsts output) v _ definite given
          (λ other. opposite_differs v definite (ends_are_unique_lem (circuit_at chip u) (pin_vector (circuit_at chip u) a) (pin_vector (circuit_at chip u) a)
          (2 + inputs_at chip u + output) _ _ cell.formed inside (other a a_over) (given a a_over)))
          (plain.output_first u output lt within)

      -- each row gives a definite last value of the wave
      last_same : (v : Trit) → (v ≡ X → ⊥) → (wave_of good (output_net chip u output)).last ≡ v → v ≡ value_at lasts (output_net chip u output)
      last_same v definite wave =
          let given : LastRowsGive chip u firsts lasts output v = λ row to over over_to.
          row_ends chip rank None good_is pair good u lt row to (over_firsts row over) (over_lasts to over_to) output v within definite wave in
          common_is (LastRowsGive chip u firsts lasts output) v _ definite given
          (λ other. opposite_differs v definite (ends_are_unique_lem (circuit_at chip u) (pin_vector (circuit_at chip u) a) (pin_vector (circuit_at chip u) b)
          (2 + inputs_at chip u + output) _ _ cell.formed inside (other a b a_over b_over) (given a b a_over b_over)))
          (plain.output_last u output lt within)

      output_below : Below (output_net chip u output)
      output_below = record {
        first_below = below_if _ _ (λ definite. first_same _ definite refl);
        last_below = below_if _ _ (λ definite. last_same _ definite refl);
      }

  all_below : (net : ℕ) → net < length chip.nets → Below net
  all_below = net_induction chip rank is Below
      (λ net within kind. record {
        first_below = inr (ap (λ w. w.first) (input_wave chip rank None good_is pair good net within kind) ∙ sym (plain.input_first net within kind));
        last_below = inr (ap (λ w. w.last) (input_wave chip rank None good_is pair good net within kind) ∙ sym (plain.input_last net within kind));
      })
      (λ u lt pins output within. output_below u pins lt output within)

pub waves_are_below_plain_lem : WavesAreBelowPlain
waves_are_below_plain_lem chip rank pair firsts lasts good net is formed plain within = all_below chip rank pair firsts lasts good is formed plain net within

pub suspect_is_allowed_lem : SuspectIsAllowed
suspect_is_allowed_lem chip rank defect pair firsts lasts good is formed in_chip plain suspect ruled =
    let u = defect.instance in
    let pins = λ (pin : ℕ) (k : pin < inputs_at chip u). all_below chip rank pair firsts lasts good is formed plain (net_of chip u pin)
    (is.on_nets u pin in_chip.known (omega arith)) in
    elim suspect [
      | inl change ↦ ruled.changing change.first change.last
          (over_firsts chip rank pair firsts lasts good is formed plain u pins change.first change.over_first)
          (over_lasts chip rank pair firsts lasts good is formed plain u pins change.last change.over_last) change.exposes
      | inr steady ↦ ruled.steady steady.vector
          (over_firsts chip rank pair firsts lasts good is formed plain u pins steady.vector steady.over) steady.exposes
    ]
