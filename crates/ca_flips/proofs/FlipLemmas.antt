-- Flipped values against the waves of the faulty network.
use Rattle.std.proofs.Common.{◌≡◌, ℕ, ◌+◌, ◌<◌, List, length, None, Some, inl, inr, sym, ◌∙◌, ap, subst}
use Rattle.std.proofs.Common.{arith}
use Rattle.ca_net.specs.declared.trit.Trit.{Trit}
use Rattle.ca_net.specs.Trit.{IsBelow}
use Rattle.ca_parts.proofs.TritLemmas.{same_stable}
use Rattle.ca_flat.specs.declared.chip_defect.ChipDefect.{ChipDefect}
use Rattle.ca_flat.specs.Chip.{Chip, inputs_at, outputs_at, output_net}
use Rattle.ca_flat.specs.Waves.{FlatWaves, IsFlatChip}
use Rattle.ca_flat.specs.Chain.{Leads, IsReachedFrom}
use Rattle.ca_flat.proofs.NetInduction.{net_induction}
use Rattle.ca_flat.proofs.Detected.{same_instance, other_circuit, faulty_flat}
use Rattle.ca_flips.specs.Flips.{AreFlipped, AreKnownFlipped, lasts_of}
use Rattle.ca_flips.specs.Laws.{FlippedAreAbove}
use Rattle.ca_flips.proofs.CellLemmas.{below_stable, below_if}
use Rattle.ca_flips.proofs.ReachLemmas.{reached_no_input, reached_is_after, unreached_same, leads_on, feeds_of, leads_self}
use Rattle.ca_flips.proofs.PinLemmas.{output_is, output_below}

-- what holds in both cases holds
pub below_by_cases : (P : Type 0) (a b : Trit) → (P → IsBelow a b) → ((P → ⊥) → IsBelow a b) → IsBelow a b
below_by_cases P a b if_so off = below_stable a b (λ out. out (off (λ p. out (if_so p))))

pub same_by_cases : (P : Type 0) (a b : Trit) → (P → a ≡ b) → ((P → ⊥) → a ≡ b) → a ≡ b
same_by_cases P a b if_so off = same_stable a b (λ out. out (off (λ p. out (if_so p))))

module _ (chip : Chip) (rank : ℕ → ℕ) (defect : ChipDefect) (is : IsFlatChip chip rank defect) (pair : List Trit) (good : FlatWaves chip None pair)
    (faulty : FlatWaves chip (Some defect) pair) (outputs values : ℕ → Trit) (flipped : AreFlipped chip defect.instance (lasts_of good) outputs values) where
  -- a net that isn't reached has its good value
  unreached : (net : ℕ) → net < length chip.nets → (IsReachedFrom chip defect.instance net → ⊥) → lasts_of faulty net ≡ values net
  unreached net within off = sym (ap (λ w. w.last) (unreached_same chip rank defect is pair good faulty net within off)) ∙ sym (flipped.apart net within off)

  -- where the outputs are at or above the faulty lasts, so are the values
  module _ (over : (output : ℕ) → output < outputs_at chip defect.instance → IsBelow (lasts_of faulty (output_net chip defect.instance output)) (outputs output)) where
    abbrev Below : ℕ → Type 0
    Below net = IsBelow (lasts_of faulty net) (values net)

    own_below : (w output : ℕ) → w ≡ defect.instance → output < outputs_at chip w → Below (output_net chip w output)
    own_below w output e within = subst (λ x. Below (output_net chip x output)) (sym e)
        (let k = subst (λ x. output < outputs_at chip x) e within in
        subst (λ x. IsBelow (lasts_of faulty (output_net chip defect.instance output)) x) (sym (flipped.given output k)) (over output k))

    pub all_below : (net : ℕ) → net < length chip.nets → Below net
    all_below = net_induction chip rank is.chip_is Below
        (λ net within kind. inr (unreached net within (λ reached. reached_no_input chip rank is.chip_is defect.instance is.defect_is.known net reached kind)))
        (λ w lt pins output within. elim (same_instance w defect.instance) [
          | inl e ↦ own_below w output e within
          | inr other ↦ below_by_cases (IsReachedFrom chip defect.instance (output_net chip w output)) _ _
              (λ reached. output_below chip rank (Some defect) (faulty_flat chip rank defect is) w lt pair faulty (other_circuit chip defect w other) values output _ within
              (flipped.following w output (reached_is_after chip rank is.chip_is defect.instance is.defect_is.known w output lt within other reached) within) pins)
              (λ off. inr (unreached (output_net chip w output) (is.chip_is.on_nets w (inputs_at chip w + output) lt (omega arith)) off))
        ])

  -- where the outputs that lead to a net are the faulty lasts, its value is its faulty last
  abbrev Exact : ℕ → Type 0
  Exact net = ((output : ℕ) → output < outputs_at chip defect.instance → Leads chip (output_net chip defect.instance output) net
      → lasts_of faulty (output_net chip defect.instance output) ≡ outputs output) → lasts_of faulty net ≡ values net

  own_exact : (w output : ℕ) → w ≡ defect.instance → output < outputs_at chip w → Exact (output_net chip w output)
  own_exact w output e within = subst (λ x. Exact (output_net chip x output)) (sym e)
      (λ given. let k = subst (λ x. output < outputs_at chip x) e within in
      given output k (leads_self chip (output_net chip defect.instance output)) ∙ sym (flipped.given output k))

  pub all_exact : (net : ℕ) → net < length chip.nets → Exact net
  all_exact = net_induction chip rank is.chip_is Exact
      (λ net within kind given. unreached net within (λ reached. reached_no_input chip rank is.chip_is defect.instance is.defect_is.known net reached kind))
      (λ w lt pins output within. elim (same_instance w defect.instance) [
        | inl e ↦ own_exact w output e within
        | inr other ↦ λ given. same_by_cases (IsReachedFrom chip defect.instance (output_net chip w output)) _ _
            (λ reached. output_is chip rank (Some defect) (faulty_flat chip rank defect is) w lt pair faulty (other_circuit chip defect w other) values output _ within
            (flipped.following w output (reached_is_after chip rank is.chip_is defect.instance is.defect_is.known w output lt within other reached) within)
            (λ pin k. inr (sym (pins pin k (λ from j leads. given from j (leads_on chip _ _ _ leads (feeds_of chip w pin output lt k within)))))))
            (λ off. unreached (output_net chip w output) (is.chip_is.on_nets w (inputs_at chip w + output) lt (omega arith)) off)
      ])

-- what is known is at or below the faulty lasts
module _ (chip : Chip) (rank : ℕ → ℕ) (defect : ChipDefect) (is : IsFlatChip chip rank defect) (pair : List Trit) (good : FlatWaves chip None pair)
    (faulty : FlatWaves chip (Some defect) pair) (goods known values : ℕ → Trit) (same : (net : ℕ) → net < length chip.nets → goods net ≡ lasts_of good net)
    (given : (output : ℕ) → output < outputs_at chip defect.instance → lasts_of faulty (output_net chip defect.instance output) ≡ known output)
    (flipped : AreKnownFlipped chip defect.instance goods known values) where
  abbrev Known : ℕ → Type 0
  Known net = IsBelow (values net) (lasts_of faulty net)

  known_apart : (net : ℕ) → net < length chip.nets → (IsReachedFrom chip defect.instance net → ⊥) → Known net
  known_apart net within off = subst (IsBelow (values net)) (same net within ∙ ap (λ w. w.last) (unreached_same chip rank defect is pair good faulty net within off))
      (flipped.apart net within off)

  known_own : (w output : ℕ) → w ≡ defect.instance → output < outputs_at chip w → Known (output_net chip w output)
  known_own w output e within = subst (λ x. Known (output_net chip x output)) (sym e)
      (let k = subst (λ x. output < outputs_at chip x) e within in
      subst (λ x. IsBelow (values (output_net chip defect.instance output)) x) (sym (given output k)) (flipped.given output k))

  pub all_known : (net : ℕ) → net < length chip.nets → Known net
  all_known = net_induction chip rank is.chip_is Known
      (λ net within kind. known_apart net within (λ reached. reached_no_input chip rank is.chip_is defect.instance is.defect_is.known net reached kind))
      (λ w lt pins output within. elim (same_instance w defect.instance) [
        | inl e ↦ known_own w output e within
        | inr other ↦ below_by_cases (IsReachedFrom chip defect.instance (output_net chip w output)) _ _
            (λ reached. below_if _ _ (λ definite.
            output_is chip rank (Some defect) (faulty_flat chip rank defect is) w lt pair faulty (other_circuit chip defect w other) values output _ within
            (flipped.following w output (reached_is_after chip rank is.chip_is defect.instance is.defect_is.known w output lt within other reached) within definite) pins))
            (λ off. known_apart (output_net chip w output) (is.chip_is.on_nets w (inputs_at chip w + output) lt (omega arith)) off)
      ])

pub flipped_are_above_lem : FlippedAreAbove
flipped_are_above_lem chip rank defect pair good faulty outputs values net is over flipped within =
    all_below chip rank defect is pair good faulty outputs values flipped over net within
