-- A defect that no possible row exposes is untestable.
use Rattle.std.proofs.Common.{◌≡◌, ◌≢◌, ℕ, ◌+◌, ◌^◌, ◌<◌, List, length, None, Some, inl, inr, refl, sym, ◌∙◌, ap, subst, arith}
use Rattle.std.specs.List.{Contains}
use Rattle.ca_net.specs.declared.trit.Trit.{Trit}
use Rattle.ca_net.specs.declared.trit.Trit.TheVariants.{Zero, One, X}
use Rattle.ca_net.specs.Trit.{IsBelow}
use Rattle.ca_net.specs.Circuit.{Circuit}
use Rattle.ca_net.specs.State.{value_at, IsStateBelow}
use Rattle.ca_net.specs.PairRun.{EndsAt}
use Rattle.ca_net.proofs.StateLemmas.{IsBelow-trans}
use Rattle.ca_cell.specs.Row.{vector_of}
use Rattle.ca_cell.specs.Exposes.{opposite_of, pin_vector, IsDefiniteVector, Exposes}
use Rattle.ca_cell.proofs.NumberLemmas.{number_of, number_within, vector_again}
use Rattle.ca_flat.specs.declared.chip_defect.ChipDefect.{ChipDefect}
use Rattle.ca_flat.specs.Chip.{Chip, cell_at, inputs_at, outputs_at, net_of, output_net, count_of}
use Rattle.ca_flat.specs.Pair.{DetectsAt}
use Rattle.ca_flat.specs.Waves.{FlatWaves, wave_of, IsFlatChip, IsOverFirsts, IsOverLasts}
use Rattle.ca_flat.specs.TwoFrame.{IsVectorOver}
use Rattle.ca_flat.specs.Detection.{trits_of}
use Rattle.ca_flat.proofs.Clashes.{Clash, opposite_definite, opposite_differs}
use Rattle.ca_flat.proofs.Completions.{waves_rise_lem}
use Rattle.ca_flat.proofs.Detected.{some_good, some_faulty, good_flat, faulty_flat, faulty_here, pins_same, detected_is_exposed_lem}
use Rattle.ca_flat.proofs.Rows.{row_ends}
use Rattle.ca_flat.proofs.Filled.{fill, fill_definite, fill_above}
use Rattle.ca_flips.specs.Flips.{IsOpposite, lasts_of}
use Rattle.ca_flips.proofs.ReachLemmas.{reached_own}
use Rattle.ca_every_vector.specs.Possible.{Has, HasFirsts, HasClear, HasLasts, HasAll}
use Rattle.ca_every_vector.specs.Laws.{NoneExposes, ImpossibleIsUntestable}
use Rattle.ca_sweep.specs.Seen.{IsClear}
use Rattle.ca_sweep.proofs.UndetectedLemmas.{none_flipped, reached_good, undetected, unseen_is_undetected, rises}

below_unless_opposite : (good known : Trit) → good ≢ X → (IsOpposite good known → ⊥) → IsBelow known good
below_unless_opposite good X definite none = inl refl
below_unless_opposite Zero Zero definite none = inr refl
below_unless_opposite Zero One definite none = absurd (none (definite, refl))
below_unless_opposite One Zero definite none = absurd (none (definite, refl))
below_unless_opposite One One definite none = inr refl
below_unless_opposite X Zero definite none = absurd (definite refl)
below_unless_opposite X One definite none = absurd (definite refl)

module _ (chip : Chip) (rank : ℕ → ℕ) (defect : ChipDefect) (is : IsFlatChip chip rank defect) (pair : List Trit) (good : FlatWaves chip None pair)
    (faulty : FlatWaves chip (Some defect) pair) where
  known : defect.instance < count_of chip
  known = is.defect_is.known

  -- lasts that clash at an output of the instance expose the defect by each row over the waves
  module _ (a b : List Trit) (a_definite : IsDefiniteVector (cell_at chip defect.instance) a) (b_definite : IsDefiniteVector (cell_at chip defect.instance) b)
      (over_firsts : IsOverFirsts good defect.instance a) (over_lasts : IsOverLasts good defect.instance b) where
    faulty_firsts : IsOverFirsts faulty defect.instance a
    faulty_firsts pin k = subst (λ w. IsBelow w.first (value_at a pin)) (pins_same chip rank defect is pair good faulty pin k) (over_firsts pin k)

    faulty_lasts : IsOverLasts faulty defect.instance b
    faulty_lasts pin k = subst (λ w. IsBelow w.last (value_at b pin)) (pins_same chip rank defect is pair good faulty pin k) (over_lasts pin k)

    clash_exposes : (output : ℕ) → output < outputs_at chip defect.instance
        → Clash (lasts_of good (output_net chip defect.instance output)) (lasts_of faulty (output_net chip defect.instance output))
        → Exposes (cell_at chip defect.instance) defect.defect a b
    clash_exposes output within clash = record {
      first_definite = a_definite;
      last_definite = b_definite;
      output = 2 + inputs_at chip defect.instance + output;
      is_output = (omega arith, omega arith);
      value = lasts_of good (output_net chip defect.instance output);
      good = row_ends chip rank None (good_flat chip rank defect is) pair good defect.instance known a b over_firsts over_lasts output _ within clash.0 refl;
      faulty = subst (λ (c : Circuit). EndsAt c (pin_vector c a) (pin_vector c b) (2 + inputs_at chip defect.instance + output) (opposite_of (lasts_of good (output_net chip defect.instance output))))
          (faulty_here chip defect)
          (row_ends chip rank (Some defect) (faulty_flat chip rank defect is) pair faulty defect.instance known a b faulty_firsts faulty_lasts output _ within (opposite_definite _ clash.0) clash.1);
    }

  -- for masks that have all possible rows, of which none exposes the defect
  module _ (firsts lasts : ℕ) (none : NoneExposes chip defect firsts lasts) where
    abbrev pub first_pin : ℕ → Trit
    first_pin pin = (wave_of good (net_of chip defect.instance pin)).first

    abbrev pub last_pin : ℕ → Trit
    last_pin pin = (wave_of good (net_of chip defect.instance pin)).last

    abbrev pub a : List Trit
    a = fill chip defect.instance first_pin

    abbrev pub b : List Trit
    b = fill chip defect.instance last_pin

    pub again : (vector : List Trit) → IsDefiniteVector (cell_at chip defect.instance) vector → vector_of (inputs_at chip defect.instance) (number_of vector) ≡ vector
    again vector definite = ap (λ n. vector_of n (number_of vector)) (sym definite.count) ∙ vector_again vector definite.definite

    pub number_fits : (vector : List Trit) → IsDefiniteVector (cell_at chip defect.instance) vector → number_of vector < 2 ^ inputs_at chip defect.instance
    number_fits vector definite = subst (λ n. number_of vector < 2 ^ n) definite.count (number_within vector)

    not_exposed : (x y : List Trit) → IsDefiniteVector (cell_at chip defect.instance) x → IsDefiniteVector (cell_at chip defect.instance) y
        → Has firsts (number_of x) → Has lasts (number_of y) → Exposes (cell_at chip defect.instance) defect.defect x y → ⊥
    not_exposed x y x_definite y_definite first last exposes = none (record { first = number_of x; last = number_of y })
        (record {
          first_within = number_fits x x_definite;
          last_within = number_fits y y_definite;
          exposes = subst (λ v. Exposes (cell_at chip defect.instance) defect.defect v (vector_of (inputs_at chip defect.instance) (number_of y))) (sym (again x x_definite))
              (subst (λ v. Exposes (cell_at chip defect.instance) defect.defect x v) (sym (again y y_definite)) exposes);
        }) first last

    pub a_definite : IsDefiniteVector (cell_at chip defect.instance) a
    a_definite = fill_definite chip defect.instance first_pin

    pub b_definite : IsDefiniteVector (cell_at chip defect.instance) b
    b_definite = fill_definite chip defect.instance last_pin

    over_firsts : IsOverFirsts good defect.instance a
    over_firsts = fill_above chip defect.instance first_pin

    pub over_lasts : IsOverLasts good defect.instance b
    over_lasts = fill_above chip defect.instance last_pin

    has_first : (partial : List Trit) → FlatWaves chip None partial → IsStateBelow partial pair → HasFirsts chip defect.instance firsts partial → Has firsts (number_of a)
    has_first partial low up of = of.has (number_of a) (number_fits a a_definite)
        (subst (IsVectorOver chip defect.instance of.values) (sym (again a a_definite)) (record {
          definite = a_definite;
          over = λ pin k.
              let within : net_of chip defect.instance pin < length chip.nets = is.chip_is.on_nets defect.instance pin known (omega arith) in
              IsBelow-trans _ _ _ (subst (λ v. IsBelow v (first_pin pin)) (of.are_firsts low (net_of chip defect.instance pin) within)
              (waves_rise_lem chip None partial pair low good is.good_is up (net_of chip defect.instance pin)).first_below)
              (over_firsts pin k);
        }))

    module _ (first : Has firsts (number_of a)) (partial : List Trit) (low : FlatWaves chip None partial) (up : IsStateBelow partial pair) (net : ℕ) (observed : Contains chip.outputs net)
        (detects : DetectsAt chip defect pair net) where
      -- the last vector is in the mask, and all is clear after the instance
      pub by_clear_at : (values : ℕ → Trit) → ((waves : FlatWaves chip None partial) (net : ℕ) → net < length chip.nets → lasts_of waves net ≡ values net)
          → IsClear chip values defect.instance → Has lasts (number_of b) → ⊥
      by_clear_at values are_lasts clear last =
          undetected chip rank defect is pair partial good faulty low up values (are_lasts low) clear
          (λ output. values (output_net chip defect.instance output)) values
          (none_flipped chip rank defect is pair partial good faulty low up values (are_lasts low) clear)
          (λ output k.
          let on : output_net chip defect.instance output < length chip.nets = is.chip_is.on_nets defect.instance (inputs_at chip defect.instance + output) known (omega arith) in
          let same : values (output_net chip defect.instance output) ≡ lasts_of good (output_net chip defect.instance output) =
          reached_good chip rank defect is pair partial good faulty low up values (are_lasts low) clear (output_net chip defect.instance output) on
          (reached_own chip defect.instance output k) in
          below_unless_opposite _ _ (clear.definite.outputs output k)
          (λ opposite. not_exposed a b a_definite b_definite first last (clash_exposes a b a_definite b_definite over_firsts over_lasts output k
          (subst (λ v. Clash v (lasts_of faulty (output_net chip defect.instance output))) same opposite))))
          net (is.chip_is.observed net observed)
          (λ opposite. opposite_differs _ opposite.0 (sym opposite.1)) detects

      by_clear : (values : List Trit) → ((waves : FlatWaves chip None partial) (net : ℕ) → net < length chip.nets → lasts_of waves net ≡ value_at values net)
          → HasClear chip defect.instance lasts values → ⊥
      by_clear values are_lasts of =
          by_clear_at (value_at values) are_lasts of.clear (of.has (number_of b) (number_fits b b_definite)
          (subst (IsVectorOver chip defect.instance values) (sym (again b b_definite)) (record {
            definite = b_definite;
            over = λ pin k.
                let within : net_of chip defect.instance pin < length chip.nets = is.chip_is.on_nets defect.instance pin known (omega arith) in
                IsBelow-trans _ _ _ (rises chip rank defect is pair partial good faulty low up (value_at values) (are_lasts low) of.clear (net_of chip defect.instance pin) within) (over_lasts pin k);
          })))

      by_all : HasAll chip defect.instance lasts → ⊥
      by_all all = detected_is_exposed_lem chip rank defect pair net a b good is (is.chip_is.observed net observed) detects a_definite b_definite over_firsts over_lasts
          (not_exposed a b a_definite b_definite first (all (number_of b) (number_fits b b_definite)))
          (not_exposed a a a_definite a_definite first (all (number_of a) (number_fits a a_definite)))

      by_lasts : HasLasts chip defect.instance lasts partial → ⊥
      by_lasts of = elim of.has [
        | inl unseen ↦ unseen_is_undetected chip rank defect is pair good faulty partial low up (value_at of.values) of.are_lasts unseen net observed detects
        | inr (inl clear) ↦ by_clear of.values of.are_lasts clear
        | inr (inr all) ↦ by_all all
      ]

pub impossible_is_untestable_lem : ImpossibleIsUntestable
impossible_is_untestable_lem chip rank defect firsts lasts is possible none bits count shown =
    let pair = trits_of bits in
    let first = possible.firsts_are bits count in
    let last = possible.lasts_are bits count in
    some_good chip rank defect is (trits_of bits) (λ good. some_faulty chip rank defect is (trits_of bits) (λ faulty.
    some_good chip rank defect is first.partial (λ first_low. some_good chip rank defect is last.partial (λ last_low.
    by_lasts chip rank defect is (trits_of bits) good faulty firsts lasts none
    (has_first chip rank defect is (trits_of bits) good faulty firsts lasts none first.partial first_low first.below first.of)
    last.partial last_low last.below shown.output shown.observed shown.detects last.of))))
