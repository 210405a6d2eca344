-- What is seen of flips of an instance's outputs by last values at or below the good ones, and what isn't
-- detected where nothing is.
use Rattle.std.specs.Prelude.{slice_index}
use Rattle.std.specs.List.{Contains}
use Rattle.std.proofs.lemmas.List.{get_or_default}
use Rattle.std.proofs.lemmas.List.Elements.{Contains-get_or}
use Rattle.std.proofs.Common.{◌≡◌, ◌≢◌, ℕ, zero, suc, Bool, true, false, ◌+◌, ◌<◌, ◌≤◌, List, length, None, Some, inl, inr, refl, sym, ◌∙◌, ap, subst, arith}
use Rattle.std.proofs.Math.Decide.{dec_le}
use Rattle.ca_net.specs.declared.trit.Trit.{Trit}
use Rattle.ca_net.specs.declared.trit.Trit.TheVariants.{Zero, One, X}
use Rattle.ca_net.specs.Trit.{IsBelow}
use Rattle.ca_net.specs.State.{IsStateBelow}
use Rattle.ca_parts.proofs.TritLemmas.{kept}
use Rattle.ca_cell.specs.declared.raw.RawCell.{RawCell}
use Rattle.ca_cell.specs.declared.rule.CellRule.TheVariants.{TooManyOutputs, NoOutput}
use Rattle.ca_cell.specs.declared.rule.TheConstants.{MOST_OUTPUTS}
use Rattle.ca_cell.specs.Raw.{is_output, role_count}
use Rattle.ca_cell.specs.Rules.{KeepsAllBut}
use Rattle.ca_flat.specs.declared.chip_defect.ChipDefect.{ChipDefect}
use Rattle.ca_flat.specs.Chip.{Chip, cell_at, inputs_at, outputs_at, net_of, output_net, count_of}
use Rattle.ca_flat.specs.Pair.{DetectsAt}
use Rattle.ca_flat.specs.Waves.{FlatWaves, IsFlatChip}
use Rattle.ca_flat.specs.Chain.{IsReachedFrom}
use Rattle.ca_flat.proofs.Clashes.{opposite_differs}
use Rattle.ca_flat.proofs.Completions.{waves_rise_lem}
use Rattle.ca_flat.proofs.NetInduction.{net_induction}
use Rattle.ca_flat.proofs.Detected.{good_flat, faulty_flat, same_instance, other_circuit, detected_clashes}
use Rattle.ca_flips.specs.Static.{EndsByLast}
use Rattle.ca_flips.specs.Flips.{IsAfter, AreFlipped, IsOpposite, vector_at, lasts_of}
use Rattle.ca_flips.proofs.PinLemmas.{output_is, output_below}
use Rattle.ca_flips.proofs.VectorLemmas.{vector_definite}
use Rattle.ca_flips.proofs.ReachLemmas.{reached_late, reached_no_input, reached_is_after, unreached_same}
use Rattle.ca_flips.proofs.FlipLemmas.{below_by_cases}
use Rattle.ca_flips.proofs.DetectLemmas.{opposite_above}
use Rattle.ca_flat.proofs.Detected.{some_good, some_faulty}
use Rattle.ca_flips.specs.Flips.{AreLastsOf}
use Rattle.ca_flips.proofs.SweepLemmas.{swept_are_flipped_lem}
use Rattle.ca_sweep.specs.declared.seen.Flips.{Flips}
use Rattle.ca_sweep.specs.Found.{IsUndetectedBefore}
use Rattle.ca_sweep.specs.Seen.{AreUnseen, IsClear, IsSeenFrom, flipped_if, flipped_outputs}

-- a cell that may be in a chip has few output pins
pub few_outputs : (raw : RawCell) → KeepsAllBut NoOutput raw → role_count is_output raw.pins ≤ MOST_OUTPUTS
few_outputs raw keeps = elim (dec_le (role_count is_output raw.pins) MOST_OUTPUTS) [
  | yes few ↦ few
  | no many ↦ absurd (keeps (TooManyOutputs (role_count is_output raw.pins)) (λ same. let clash : ⊥ = cc in clash) (refl, omega arith))
]

-- a definite value is that of what is below it
same_below : (low high : Trit) → low ≢ X → IsBelow low high → low ≡ high
same_below low high definite up = sym (kept low high definite up)

module _ (chip : Chip) (rank : ℕ → ℕ) (defect : ChipDefect) (is : IsFlatChip chip rank defect) (pair partial : List Trit) (good : FlatWaves chip None pair)
    (faulty : FlatWaves chip (Some defect) pair) (low : FlatWaves chip None partial) (up : IsStateBelow partial pair) (values : ℕ → Trit)
    (same : (net : ℕ) → net < length chip.nets → lasts_of low net ≡ values net) (clear : IsClear chip values defect.instance) where
  known : defect.instance < count_of chip
  known = is.defect_is.known

  -- the values are at or below the good lasts
  pub rises : (net : ℕ) → net < length chip.nets → IsBelow (values net) (lasts_of good net)
  rises net within = subst (λ v. IsBelow v (lasts_of good net)) (same net within)
      (waves_rise_lem chip None partial pair low good is.good_is up net).last_below

  -- an instance behind that of the defect has at its outputs what its cell ends with by the values
  ends_after : (w output : ℕ) → IsAfter chip defect.instance w → output < outputs_at chip w
      → EndsByLast (cell_at chip w) (vector_at chip w values) output (values (output_net chip w output))
  ends_after w output following within =
      let end = clear.all_static w following (vector_at chip w values) (vector_definite chip w values (λ pin k. clear.definite.read w pin following k)) output within in
      let value : lasts_of low (output_net chip w output) ≡ end.value =
      output_is chip rank None (good_flat chip rank defect is) w following.known partial low refl values output end.value within end.ends
      (λ pin k. inr (sym (same (net_of chip w pin) (is.chip_is.on_nets w pin following.known (omega arith))))) in
      subst (EndsByLast (cell_at chip w) (vector_at chip w values) output)
      (sym value ∙ same (output_net chip w output) (is.chip_is.on_nets w (inputs_at chip w + output) following.known (omega arith))) end.ends

  -- the values are those that flip nothing
  pub none_flipped : AreFlipped chip defect.instance values (λ output. values (output_net chip defect.instance output)) values
  none_flipped = record { apart = λ net within off. refl; given = λ output within. refl; following = ends_after }

  definite_at : (w output : ℕ) → w < count_of chip → output < outputs_at chip w → IsReachedFrom chip defect.instance (output_net chip w output)
      → values (output_net chip w output) ≢ X
  definite_at w output lt within reached = elim (same_instance w defect.instance) [
    | inl e ↦ own w output e within
    | inr other ↦ (ends_after w output (reached_is_after chip rank is.chip_is defect.instance known w output lt within other reached) within).definite
  ]
    where
      own : (w output : ℕ) → w ≡ defect.instance → output < outputs_at chip w → values (output_net chip w output) ≢ X
      own w output e within = subst (λ x. values (output_net chip x output) ≢ X) (sym e)
          (clear.definite.outputs output (subst (λ x. output < outputs_at chip x) e within))

  -- at the nets that the instance reaches they are the good lasts
  pub reached_good : (net : ℕ) → net < length chip.nets → IsReachedFrom chip defect.instance net → values net ≡ lasts_of good net
  reached_good net within reached =
      let drives = (reached_late chip rank is.chip_is defect.instance known net reached).drives in
      let definite = definite_at drives.instance drives.output drives.known drives.within (subst (IsReachedFrom chip defect.instance) (sym drives.on) reached) in
      same_below (values net) (lasts_of good net) (subst (λ x. values x ≢ X) drives.on definite) (rises net within)

  module _ (outputs flipped : ℕ → Trit) (are : AreFlipped chip defect.instance values outputs flipped)
      (over : (output : ℕ) → output < outputs_at chip defect.instance → IsBelow (lasts_of faulty (output_net chip defect.instance output)) (outputs output)) where
    abbrev Below : ℕ → Type 0
    Below net = IsBelow (lasts_of faulty net) (flipped net)

    own_below : (w output : ℕ) → w ≡ defect.instance → output < outputs_at chip w → Below (output_net chip w output)
    own_below w output e within = subst (λ x. Below (output_net chip x output)) (sym e)
        (let k = subst (λ x. output < outputs_at chip x) e within in
        subst (λ x. IsBelow (lasts_of faulty (output_net chip defect.instance output)) x) (sym (are.given output k)) (over output k))

    -- an input net of an instance behind that of the defect, if it isn't reached, has the faulty last
    unreached_pin : (w pin : ℕ) → IsAfter chip defect.instance w → pin < inputs_at chip w → (IsReachedFrom chip defect.instance (net_of chip w pin) → ⊥) → Below (net_of chip w pin)
    unreached_pin w pin following k off =
        let within : net_of chip w pin < length chip.nets = is.chip_is.on_nets w pin following.known (omega arith) in
        inr (sym (ap (λ w. w.last) (unreached_same chip rank defect is pair good faulty (net_of chip w pin) within off))
        ∙ sym (same_below (values (net_of chip w pin)) (lasts_of good (net_of chip w pin)) (clear.definite.read w pin following k) (rises (net_of chip w pin) within))
        ∙ sym (are.apart (net_of chip w pin) within off))

    -- where the outputs are at or above the faulty lasts, so are the flipped values at reached nets
    reached_below : (net : ℕ) → net < length chip.nets → IsReachedFrom chip defect.instance net → Below net
    reached_below = net_induction chip rank is.chip_is (λ net. IsReachedFrom chip defect.instance net → Below net)
        (λ net within kind reached. absurd (reached_no_input chip rank is.chip_is defect.instance known net reached kind))
        (λ w lt pins output within reached. elim (same_instance w defect.instance) [
          | inl e ↦ own_below w output e within
          | inr other ↦
              let following = reached_is_after chip rank is.chip_is defect.instance known w output lt within other reached in
              output_below chip rank (Some defect) (faulty_flat chip rank defect is) w lt pair faulty (other_circuit chip defect w other) flipped output _ within
              (are.following w output following within)
              (λ pin k. below_by_cases (IsReachedFrom chip defect.instance (net_of chip w pin)) _ _ (pins pin k) (unreached_pin w pin following k))
        ])

    -- so where they aren't opposite to the values at a net, the defect isn't detected there
    pub undetected : (net : ℕ) → net < length chip.nets → (IsOpposite (values net) (flipped net) → ⊥) → DetectsAt chip defect pair net → ⊥
    undetected net within none detects =
        let clash = detected_clashes chip rank defect is pair good faulty net within detects in
        let off : IsReachedFrom chip defect.instance net → ⊥ = λ reached.
        none (subst (λ v. IsOpposite v (flipped net)) (sym (reached_good net within reached))
        (opposite_above _ _ _ clash (reached_below net within reached))) in
        let e : lasts_of good net ≡ lasts_of faulty net = ap (λ w. w.last) (unreached_same chip rank defect is pair good faulty net within off) in
        opposite_differs (lasts_of good net) clash.0 (sym (e ∙ clash.1))

-- whether a known value is the opposite of the good one
abbrev differs : Trit → Trit → Bool
differs Zero One = true
differs Zero Zero = false
differs Zero X = false
differs One Zero = true
differs One One = false
differs One X = false
differs X known = false

flip_below : (good known : Trit) → good ≢ X → IsBelow known (flipped_if (differs good known) good)
flip_below Zero Zero definite = inr refl
flip_below Zero One definite = inr refl
flip_below Zero X definite = inl refl
flip_below One Zero definite = inr refl
flip_below One One definite = inr refl
flip_below One X definite = inl refl
flip_below X known definite = absurd (definite refl)

-- what no flip shows isn't detected
module _ (chip : Chip) (rank : ℕ → ℕ) (defect : ChipDefect) (is : IsFlatChip chip rank defect) (pair : List Trit) (good : FlatWaves chip None pair)
    (faulty : FlatWaves chip (Some defect) pair) (partial : List Trit) (low : FlatWaves chip None partial) (up : IsStateBelow partial pair) (values : ℕ → Trit)
    (are_lasts : (waves : FlatWaves chip None partial) (net : ℕ) → net < length chip.nets → lasts_of waves net ≡ values net) where
  flips : Flips
  flips = record {
    first = differs (values (output_net chip defect.instance 0)) (lasts_of faulty (output_net chip defect.instance 0));
    second = differs (values (output_net chip defect.instance 1)) (lasts_of faulty (output_net chip defect.instance 1));
  }

  flips_over : ((output : ℕ) → output < outputs_at chip defect.instance → values (output_net chip defect.instance output) ≢ X)
      → (output : ℕ) → output < outputs_at chip defect.instance
      → IsBelow (lasts_of faulty (output_net chip defect.instance output)) (flipped_outputs chip defect.instance values flips output)
  unfolding flips
  flips_over definite zero within = flip_below _ _ (definite 0 within)
  flips_over definite (suc zero) within = flip_below _ _ (definite 1 within)
  flips_over definite (suc (suc output)) within =
      let few = few_outputs (cell_at chip defect.instance) (is.chip_is.cells defect.instance is.defect_is.known).keeps in absurd (omega arith)

  pub unseen_is_undetected : AreUnseen chip values defect.instance → (net : ℕ) → Contains chip.outputs net → DetectsAt chip defect pair net → ⊥
  unseen_is_undetected unseen net observed detects =
      let seen : IsSeenFrom chip values defect.instance flips None = unseen flips in
      let same : slice_index chip.outputs observed.0 ≡ net = get_or_default chip.outputs observed.0 0 net observed.1 ∙ observed.2 in
      undetected chip rank defect is pair partial good faulty low up values (are_lasts low) seen.clear
      (flipped_outputs chip defect.instance values flips) seen.values
      (swept_are_flipped_lem chip rank partial defect.instance values (flipped_outputs chip defect.instance values flips) seen.values
      is.chip_is is.good_is is.defect_is.known are_lasts seen.clear.all_static seen.clear.definite seen.swept)
      (flips_over seen.clear.definite.outputs)
      net (is.chip_is.observed net observed)
      (λ opposite. seen.first observed.0 observed.1 (subst (λ n. IsOpposite (values n) (seen.values n)) (sym same) opposite)) detects

-- so a pair whose last values show no flip of an instance detects none of its defects
pub unseen_undetected : (chip : Chip) (rank : ℕ → ℕ) (defect : ChipDefect) (pair : List Trit) (goods : ℕ → Trit) → IsFlatChip chip rank defect → AreLastsOf chip pair goods
    → AreUnseen chip goods defect.instance → IsUndetectedBefore chip defect pair (length chip.outputs)
unseen_undetected chip rank defect pair goods is lasts unseen output less detects =
    some_good chip rank defect is pair (λ good. some_faulty chip rank defect is pair (λ faulty.
    unseen_is_undetected chip rank defect is pair good faulty pair good (λ k. inr refl) goods lasts unseen
    (slice_index chip.outputs output) (Contains-get_or chip.outputs output 0 less) detects))
