-- Detection by flipped values over the good last values of the nets, whichever states have the good waves.
use Rattle.std.proofs.Common.{◌≡◌, ◌≢◌, ℕ, ◌+◌, ◌<◌, List, length, None, Some, refl, sym, ◌∙◌, ap, subst, arith}
use Rattle.ca_net.specs.declared.trit.Trit.{Trit}
use Rattle.ca_net.specs.declared.trit.Trit.TheVariants.{X}
use Rattle.ca_net.specs.declared.wave.Wave.{Wave}
use Rattle.ca_parts.proofs.TritLemmas.{same_stable}
use Rattle.ca_cell.specs.Exposes.{opposite_of}
use Rattle.ca_flat.specs.declared.chip_defect.ChipDefect.{ChipDefect}
use Rattle.ca_flat.specs.Chip.{Chip, inputs_at, outputs_at, net_of, output_net, count_of, IsChip}
use Rattle.ca_flat.specs.Pair.{NetEndsAt, DetectsAt}
use Rattle.ca_flat.specs.Waves.{FlatWaves, IsFlatChip}
use Rattle.ca_flat.proofs.InstanceWaves.{ends_last}
use Rattle.ca_flat.proofs.CheckedCodes.{waves_are_unique_lem}
use Rattle.ca_flat.proofs.Detected.{good_flat, some_good, some_faulty}
use Rattle.ca_flips.specs.Flips.{AreDefiniteAfter, AreFlipped, IsOpposite, known_or, filled_in, lasts_of, AreGoodLasts}
use Rattle.ca_flips.specs.Laws.{GoodLastsAreOfWaves, DetectedIsFlipped, FlippedAreEnds, DetectedIsFilledIn, DetectedIsForced}
use Rattle.ca_flips.specs.Laws.{UnflippedIsUndetected, KnownFlippedIsDetected}
use Rattle.ca_flips.proofs.DetectLemmas.{opposite_above, clash_detects, ends_stable, detected_is_flipped_by_waves, flipped_are_ends_by_waves}
use Rattle.ca_flips.proofs.FaultyLemmas.{faulty_last}
use Rattle.ca_flips.proofs.FlipLemmas.{all_known}
use Rattle.ca_flips.proofs.DetectLemmas.{detected_is_filled_in_by_waves, detected_is_forced_by_waves, unflipped_is_undetected_by_waves}

pub good_lasts_are_of_waves_lem : GoodLastsAreOfWaves
good_lasts_are_of_waves_lem chip pair good u pins pin_waves = record {
  pin_waves = λ other. record {
    count = pin_waves.count;
    each = λ pin within. pin_waves.each pin within ∙ waves_are_unique_lem chip None pair good other (net_of chip u pin);
  };
  lasts = λ other net within. ap (λ (w : Wave). w.last) (waves_are_unique_lem chip None pair other good net);
}

-- flipped values over goods and outputs are so over equal ones
flipped_over : (chip : Chip) (u : ℕ) (goods others outputs over values : ℕ → Trit) → ((net : ℕ) → net < length chip.nets → goods net ≡ others net)
    → ((output : ℕ) → output < outputs_at chip u → outputs output ≡ over output) → AreFlipped chip u goods outputs values → AreFlipped chip u others over values
flipped_over chip u goods others outputs over values same same_outputs flipped = record {
  apart = λ net within off. flipped.apart net within off ∙ same net within;
  given = λ output within. flipped.given output within ∙ same_outputs output within;
  following = flipped.following;
}

definite_over : (chip : Chip) (rank : ℕ → ℕ) → IsChip chip rank → (u : ℕ) → u < count_of chip → (goods others : ℕ → Trit)
    → ((net : ℕ) → net < length chip.nets → goods net ≡ others net) → AreDefiniteAfter chip u goods → AreDefiniteAfter chip u others
definite_over chip rank is u known goods others same definite = record {
  outputs = λ output within. subst (λ x. x ≢ X) (same (output_net chip u output) (is.on_nets u (inputs_at chip u + output) known (omega arith))) (definite.outputs output within);
  read = λ w pin following within. subst (λ x. x ≢ X) (same (net_of chip w pin) (is.on_nets w pin following.known (omega arith))) (definite.read w pin following within);
}

-- values are opposite where this can't fail
pub opposite_by : (good other : Trit) → ((IsOpposite good other → ⊥) → ⊥) → IsOpposite good other
opposite_by good other out = ((λ e. out (λ is. is.0 e)), same_stable _ _ (λ differs. out (λ is. differs is.1)))

module _ (chip : Chip) (rank : ℕ → ℕ) (defect : ChipDefect) (pair : List Trit) (pins : List Wave) (goods : ℕ → Trit) (is : IsFlatChip chip rank defect)
    (are : AreGoodLasts chip pair defect.instance pins goods) where
  same_over : (good : FlatWaves chip None pair) (net : ℕ) → net < length chip.nets → goods net ≡ lasts_of good net
  same_over good net within = sym (are.lasts good net within)

  output_within : (output : ℕ) → output < outputs_at chip defect.instance → output_net chip defect.instance output < length chip.nets
  output_within output within = is.chip_is.on_nets defect.instance (inputs_at chip defect.instance + output) is.defect_is.known (omega arith)

  -- flipped values over the goods are so over the lasts of waves
  over_waves : (good : FlatWaves chip None pair) (outputs values : ℕ → Trit) → AreFlipped chip defect.instance goods outputs values
      → AreFlipped chip defect.instance (lasts_of good) outputs values
  over_waves good outputs values = flipped_over chip defect.instance goods (lasts_of good) outputs outputs values (same_over good) (λ output within. refl)

  module _ (net : ℕ) (within : net < length chip.nets) where
    -- what is opposite to the last of waves is so to the good one
    to_goods : (good : FlatWaves chip None pair) (other : Trit) → IsOpposite (lasts_of good net) other → IsOpposite (goods net) other
    to_goods good other = subst (λ x. IsOpposite x other) (are.lasts good net within)

    from_goods : (good : FlatWaves chip None pair) (other : Trit) → IsOpposite (goods net) other → IsOpposite (lasts_of good net) other
    from_goods good other = subst (λ x. IsOpposite x other) (sym (are.lasts good net within))

    -- that is detected which can't fail to be
    pub detects_by : ((DetectsAt chip defect pair net → ⊥) → ⊥) → DetectsAt chip defect pair net
    detects_by out = record {
      value = goods net;
      good = ends_stable chip None pair net (goods net) (λ none. out (λ detects. some_good chip rank defect is pair (λ good.
          none (subst (NetEndsAt chip None pair net) (value_is good detects) detects.good))));
      faulty = ends_stable chip (Some defect) pair net (opposite_of (goods net)) (λ none. out (λ detects. some_good chip rank defect is pair (λ good.
          none (subst (λ x. NetEndsAt chip (Some defect) pair net (opposite_of x)) (value_is good detects) detects.faulty))));
    }
      where
        value_is : (good : FlatWaves chip None pair) (detects : DetectsAt chip defect pair net) → detects.value ≡ goods net
        value_is good detects = sym (ends_last chip rank None (good_flat chip rank defect is) pair good net detects.value within detects.good) ∙ are.lasts good net within

pub detected_is_flipped_lem : DetectedIsFlipped
detected_is_flipped_lem chip rank defect pair pins goods outputs values net is are given flipped within =
    let by_waves = λ (good : FlatWaves chip None pair).
    detected_is_flipped_by_waves chip rank defect pair good pins outputs values net is (are.pin_waves good) given (over_waves chip rank defect pair pins goods is are good outputs values flipped) within in (
      (λ detects. opposite_by (goods net) (values net) (λ out. some_good chip rank defect is pair (λ good.
          out (to_goods chip rank defect pair pins goods is are net within good (values net) ((by_waves good).0 detects))))),
      (λ opposite. detects_by chip rank defect pair pins goods is are net within (λ out. some_good chip rank defect is pair (λ good.
          out ((by_waves good).1 (from_goods chip rank defect pair pins goods is are net within good (values net) opposite))))),
    )

pub flipped_are_ends_lem : FlippedAreEnds
flipped_are_ends_lem chip rank defect pair pins goods outputs values net v is are given flipped within =
    let by_waves = λ (good : FlatWaves chip None pair).
    flipped_are_ends_by_waves chip rank defect pair good pins outputs values net v is (are.pin_waves good) given (over_waves chip rank defect pair pins goods is are good outputs values flipped) within in (
      (λ h. ends_stable chip (Some defect) pair net v (λ out. some_good chip rank defect is pair (λ good. out ((by_waves good).0 h)))),
      (λ ends. (ends.definite, same_stable _ _ (λ out. some_good chip rank defect is pair (λ good. out ((by_waves good).1 ends).1)))),
    )

pub detected_is_filled_in_lem : DetectedIsFilledIn
detected_is_filled_in_lem chip rank defect pair pins goods known values net is are given flipped within detects =
    opposite_by (goods net) (values net) (λ out. some_good chip rank defect is pair (λ good.
    out (to_goods chip rank defect pair pins goods is are net within good (values net)
    (detected_is_filled_in_by_waves chip rank defect pair good pins known values net is (are.pin_waves good) given
    (flipped_over chip defect.instance goods (lasts_of good) (filled_in chip defect.instance goods known) (filled_in chip defect.instance (lasts_of good) known) values
    (same_over chip rank defect pair pins goods is are good)
    (λ output k. ap (known_or (known output)) (same_over chip rank defect pair pins goods is are good _ (output_within chip rank defect pair pins goods is are output k))) flipped)
    within detects))))

pub detected_is_forced_lem : DetectedIsForced
detected_is_forced_lem chip rank defect pair pins goods known net is are given within detects outputs values definite over flipped =
    opposite_by (goods net) (values net) (λ out. some_good chip rank defect is pair (λ good.
    out (to_goods chip rank defect pair pins goods is are net within good (values net)
    (detected_is_forced_by_waves chip rank defect pair good pins known net is (are.pin_waves good) given within detects outputs values definite over
    (over_waves chip rank defect pair pins goods is are good outputs values flipped)))))

pub unflipped_is_undetected_lem : UnflippedIsUndetected
unflipped_is_undetected_lem chip rank defect pair pins goods known net is are static definite given none within detects =
    some_good chip rank defect is pair (λ good.
    unflipped_is_undetected_by_waves chip rank defect pair good pins known net is (are.pin_waves good) static
    (definite_over chip rank is.chip_is defect.instance is.defect_is.known goods (lasts_of good) (same_over chip rank defect pair pins goods is are good) definite) given
    (λ output k opposite. none output k (to_goods chip rank defect pair pins goods is are _ (output_within chip rank defect pair pins goods is are output k) good (known output) opposite))
    within detects)

pub known_flipped_is_detected_lem : KnownFlippedIsDetected
known_flipped_is_detected_lem chip rank defect pair pins goods known values net is are given flipped within opposite =
    detects_by chip rank defect pair pins goods is are net within (λ out.
    some_good chip rank defect is pair (λ good. some_faulty chip rank defect is pair (λ faulty.
    let below = all_known chip rank defect is pair good faulty goods known values (same_over chip rank defect pair pins goods is are good)
    (λ output k. faulty_last chip rank defect is pair good faulty pins (are.pin_waves good) output (known output) k (given output k)) flipped net within in
    out (clash_detects chip rank defect is pair good net within faulty
    (opposite_above _ _ _ (from_goods chip rank defect pair pins goods is are net within good (values net) opposite) below)))))
