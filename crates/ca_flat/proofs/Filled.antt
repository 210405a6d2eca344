-- A definite vector over the waves of an instance's input pins; so a detected defect is exposable.
use Rattle.std.proofs.Common.{◌≡◌, ◌≢◌, ℕ, zero, suc, ◌+◌, ◌<◌, List, length, inl, inr, refl, sym, ◌∙◌, ap}
use Rattle.std.proofs.Common.{subst, arith}
use Rattle.std.specs.List.{All}
use Rattle.std.proofs.lemmas.List.Elements.{All-nil, All-cons}
use Rattle.ca_net.specs.declared.trit.Trit.{Trit}
use Rattle.ca_net.specs.declared.trit.Trit.TheVariants.{Zero, One, X}
use Rattle.ca_net.specs.Trit.{IsBelow}
use Rattle.ca_net.specs.State.{value_at}
use Rattle.ca_cell.specs.Exposes.{IsDefiniteVector}
use Rattle.ca_flat.specs.Chip.{Chip, cell_at, inputs_at, net_of}
use Rattle.ca_flat.specs.Pair.{values_from}
use Rattle.ca_flat.specs.Waves.{wave_of}
use Rattle.ca_flat.specs.Laws.{DetectedIsExposable}
use Rattle.ca_flat.proofs.PairLemmas.{value_at-values_from}
use Rattle.ca_flat.proofs.Detected.{some_good, detected_is_exposed_lem}

-- a definite value at or above one
abbrev filled : Trit → Trit
filled Zero = Zero
filled One = One
filled X = Zero

filled_above : (a : Trit) → IsBelow a (filled a)
filled_above Zero = inr refl
filled_above One = inr refl
filled_above X = inl refl

filled_definite : (a : Trit) → filled a ≡ X → ⊥
filled_definite Zero e = cc
filled_definite One e = cc
filled_definite X e = cc

length-values_from : (value : ℕ → Trit) (j k : ℕ) → length (values_from value j k) ≡ k
unfolding values_from
length-values_from value j zero = refl
length-values_from value j (suc k) = ap suc (length-values_from value (j + 1) k)

All-values_from : (P : Trit → Type 0) (value : ℕ → Trit) (j k : ℕ) → ((n : ℕ) → P (value n)) → All P (values_from value j k)
unfolding values_from
All-values_from P value j zero each = All-nil P
All-values_from P value j (suc k) each = All-cons P (value j) (values_from value (j + 1) k) (each j) (All-values_from P value (j + 1) k each)

-- a definite vector at or above values of the instance's input pins
module _ (chip : Chip) (u : ℕ) (value : ℕ → Trit) where
  pub fill : List Trit
  fill = values_from (λ pin. filled (value pin)) 0 (inputs_at chip u)

  pub fill_definite : IsDefiniteVector (cell_at chip u) fill
  unfolding fill
  fill_definite = record {
    count = length-values_from (λ pin. filled (value pin)) 0 (inputs_at chip u);
    definite = All-values_from (λ x. x ≢ X) (λ pin. filled (value pin)) 0 (inputs_at chip u) (λ pin. filled_definite (value pin));
  }

  pub fill_above : (pin : ℕ) → pin < inputs_at chip u → IsBelow (value pin) (value_at fill pin)
  unfolding fill
  fill_above pin within = subst (λ x. IsBelow (value pin) x)
      (sym (value_at-values_from (λ pin. filled (value pin)) 0 (inputs_at chip u) pin within ∙ ap (λ n. filled (value n)) (let e : 0 + pin ≡ pin = omega arith in e)))
      (filled_above (value pin))

pub detected_is_exposable_lem : DetectedIsExposable
detected_is_exposable_lem chip rank defect pair net is within detects none = some_good chip rank defect is pair (λ good.
    let first : ℕ → Trit = λ pin. (wave_of good (net_of chip defect.instance pin)).first in
    let last : ℕ → Trit = λ pin. (wave_of good (net_of chip defect.instance pin)).last in
    let a : List Trit = fill chip defect.instance first in
    let b : List Trit = fill chip defect.instance last in
    detected_is_exposed_lem chip rank defect pair net a b good is within detects
    (fill_definite chip defect.instance first) (fill_definite chip defect.instance last)
    (fill_above chip defect.instance first) (fill_above chip defect.instance last)
    (λ exposes. none (a, b, exposes)) (λ exposes. none (a, a, exposes)))
