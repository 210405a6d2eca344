-- Values that are found an instance at a time are flipped ones.
use Rattle.std.proofs.Common.{◌≡◌, ℕ, ◌+◌, ◌<◌, ◌⊎◌, List, length, None, inl, inr, refl, sym, ◌∙◌, subst, arith}
use Rattle.ca_net.specs.declared.trit.Trit.{Trit}
use Rattle.ca_net.specs.Circuit.{IsWellFormed}
use Rattle.ca_parts.proofs.TritLemmas.{same_stable}
use Rattle.ca_parts.proofs.RisingLimits.{limits_exist_lem}
use Rattle.ca_flat.specs.Chip.{Chip, cell_at, inputs_at, outputs_at, net_of, output_net, count_of, IsChip}
use Rattle.ca_flat.specs.Flat.{flat}
use Rattle.ca_flat.specs.Simulation.{IsFlattened}
use Rattle.ca_flat.specs.Waves.{FlatWaves}
use Rattle.ca_flat.specs.Chain.{IsReachedFrom}
use Rattle.ca_flat.proofs.PairLemmas.{middle_under_first, middle_under_last}
use Rattle.ca_flat.proofs.NetInduction.{net_induction}
use Rattle.ca_flat.proofs.Detected.{same_instance}
use Rattle.ca_flips.specs.Static.{EndsByLast}
use Rattle.ca_flips.specs.Flips.{IsAfter, AreStaticAfter, AreDefiniteAfter, vector_at, AreLastsOf, KeepsGood}
use Rattle.ca_flips.specs.Flips.{IsEvaluated, AreSwept}
use Rattle.ca_flips.specs.Laws.{SweptAreFlipped}
use Rattle.ca_flips.proofs.PinLemmas.{output_is}
use Rattle.ca_flips.proofs.ReachLemmas.{reached_own, reached_on, feeds_of, after_other}
use Rattle.ca_flips.proofs.VectorLemmas.{vector_definite, vector_same}

module _ (chip : Chip) (rank : ℕ → ℕ) (pair : List Trit) (is : IsChip chip rank) (formed : IsWellFormed (flat chip None)) (goods : ℕ → Trit)
    (lasts : AreLastsOf chip pair goods) where
  good_flat : IsFlattened chip rank None
  good_flat = record { chip_is = is; defect_is = tt; formed = formed }

  some_waves : (FlatWaves chip None pair → ⊥) → ⊥
  some_waves out = limits_exist_lem (flat chip None) _ _ _ formed (λ n i. middle_under_first chip pair n) (λ n i. middle_under_last chip pair n)
      (λ first middle last limits. out (record { first = first; middle = middle; last = last; limits = limits }))

  -- what an instance ends with by values that are good at its input nets is good
  good_output : (w : ℕ) → w < count_of chip → (values : ℕ → Trit) → ((pin : ℕ) → pin < inputs_at chip w → values (net_of chip w pin) ≡ goods (net_of chip w pin))
      → (output : ℕ) → output < outputs_at chip w → (v : Trit) → EndsByLast (cell_at chip w) (vector_at chip w values) output v → v ≡ goods (output_net chip w output)
  good_output w lt values pins output within v ends = same_stable _ _ (λ out. some_waves (λ good.
      out (sym (output_is chip rank None good_flat w lt pair good refl values output v within ends
      (λ pin k. inr (pins pin k ∙ sym (lasts good (net_of chip w pin) (is.on_nets w pin lt (omega arith))))))
      ∙ lasts good (output_net chip w output) (is.on_nets w (inputs_at chip w + output) lt (omega arith)))))

  module _ (u : ℕ) (known : u < count_of chip) (outputs values : ℕ → Trit) (swept : AreSwept chip u goods outputs values) where
    other_good : (w : ℕ) → w < count_of chip → KeepsGood chip w goods values ⊎ IsEvaluated chip w values
        → ((pin : ℕ) → pin < inputs_at chip w → values (net_of chip w pin) ≡ goods (net_of chip w pin))
        → (output : ℕ) → output < outputs_at chip w → values (output_net chip w output) ≡ goods (output_net chip w output)
    other_good w lt (inl kept) pins output within = kept.outputs output within
    other_good w lt (inr evaluated) pins output within = good_output w lt values pins output within _ (evaluated output within)

    apart_good : (net : ℕ) → net < length chip.nets → (IsReachedFrom chip u net → ⊥) → values net ≡ goods net
    apart_good = net_induction chip rank is (λ net. (IsReachedFrom chip u net → ⊥) → values net ≡ goods net)
        (λ net within kind off. swept.inputs net within kind)
        (λ w lt pins output within off. elim (same_instance w u) [
          | inl e ↦ absurd (off (subst (λ x. IsReachedFrom chip x (output_net chip w output)) e (reached_own chip w output within)))
          | inr other ↦ other_good w lt (swept.others w lt other)
              (λ pin k. pins pin k (λ reached. off (reached_on chip u _ _ reached (feeds_of chip w pin output lt k within)))) output within
        ])

    module _ (static : AreStaticAfter chip u) (definite : AreDefiniteAfter chip u goods) where
      ends_of : (w output : ℕ) → IsAfter chip u w → output < outputs_at chip w → KeepsGood chip w goods values ⊎ IsEvaluated chip w values
          → EndsByLast (cell_at chip w) (vector_at chip w values) output (values (output_net chip w output))
      ends_of w output following within (inr evaluated) = evaluated output within
      ends_of w output following within (inl kept) =
          let end = static w following (vector_at chip w goods) (vector_definite chip w goods (λ pin k. definite.read w pin following k)) output within in
          let value : end.value ≡ values (output_net chip w output) =
          good_output w following.known goods (λ pin k. refl) output within end.value end.ends ∙ sym (kept.outputs output within) in
          subst (EndsByLast (cell_at chip w) (vector_at chip w values) output) value
          (subst (λ x. EndsByLast (cell_at chip w) x output end.value) (sym (vector_same chip w values goods kept.pins)) end.ends)

pub swept_are_flipped_lem : SweptAreFlipped
swept_are_flipped_lem chip rank pair u goods outputs values is formed known lasts static definite swept = record {
  apart = apart_good chip rank pair is formed goods lasts u known outputs values swept;
  given = swept.given;
  following = λ w output following within. ends_of chip rank pair is formed goods lasts u known outputs values swept static definite w output following within
      (swept.others w following.known (after_other chip rank is u known w following));
}
