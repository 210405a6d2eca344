-- Where flips are seen, a defect is detected.
use Rattle.std.proofs.Common.{◌≡◌, ◌≢◌, ℕ, ◌<◌, ◌↔◌, Bool, true, false, List, length, Option, None, Some, refl, sym, ◌∙◌, ap, arith}
use Rattle.std.specs.Prelude.{slice_index}
use Rattle.std.proofs.lemmas.List.Elements.{Contains-get_or}
use Rattle.ca_net.specs.declared.trit.Trit.{Trit}
use Rattle.ca_net.specs.declared.trit.Trit.TheVariants.{Zero, One, X}
use Rattle.ca_net.specs.declared.wave.Wave.{Wave}
use Rattle.ca_flat.specs.declared.chip_defect.ChipDefect.{ChipDefect}
use Rattle.ca_flat.specs.Chip.{Chip, cell_at, net_of, outputs_at, output_net, count_of, IsChip}
use Rattle.ca_flat.specs.Pair.{DetectsAt}
use Rattle.ca_flat.specs.Waves.{IsFlatChip}
use Rattle.ca_cell.specs.List.{faulty_of}
use Rattle.ca_flips.specs.Flips.{AreFlipped, IsOpposite, known_or, filled_in, AreLastsOf, AreGoodLasts, AreFaultyLasts}
use Rattle.ca_flips.specs.Laws.{SweptAreFlipped, DetectedIsFilledIn, DetectedIsFlipped}
use Rattle.ca_response.specs.Gives.{Gives, wave_at}
use Rattle.ca_sim.specs.Seen.{AreNetWaves}
use Rattle.ca_sweep.specs.declared.seen.Flips.{Flips}
use Rattle.ca_sweep.specs.declared.seen.Seen.{Seen}
use Rattle.ca_sweep.specs.declared.seen.Seen.TheVariants.{Undecided, Nowhere, At}
use Rattle.ca_sweep.specs.Seen.{flipped_if, is_flipped, flipped_outputs, IsOppositeAt, IsSeenFrom, IsSeen}
use Rattle.ca_sweep.specs.Found.{IsFound}
use Rattle.ca_sweep.specs.code.Found.{reported}
use Rattle.ca_sweep.specs.code.Faulty.{AreWavesAt, AreFlipsOf}

-- the good value, flipped where the known one is opposite, is the known one or the good one
same_value : (flipped : Bool) (good known : Trit) → good ≢ X → (flipped ≡ true) ↔ IsOpposite good known → flipped_if flipped good ≡ known_or known good
same_value flipped X known definite is = absurd (definite refl)
same_value true Zero Zero definite is = let e = (is.0 refl).1 in cc
same_value true Zero One definite is = refl
same_value true Zero X definite is = let e = (is.0 refl).1 in cc
same_value true One Zero definite is = refl
same_value true One One definite is = let e = (is.0 refl).1 in cc
same_value true One X definite is = let e = (is.0 refl).1 in cc
same_value false Zero Zero definite is = refl
same_value false Zero One definite is = let e = is.1 (definite, refl) in cc
same_value false Zero X definite is = refl
same_value false One Zero definite is = let e = is.1 (definite, refl) in cc
same_value false One One definite is = refl
same_value false One X definite is = refl

known_is : (known good : Trit) → known ≢ X → known_or known good ≡ known
known_is Zero good definite = refl
known_is One good definite = refl
known_is X good definite = absurd (definite refl)

module _ (swept_law : SweptAreFlipped) (filled_law : DetectedIsFilledIn) (flipped_law : DetectedIsFlipped)
    (chip : Chip) (rank : ℕ → ℕ) (defect : ChipDefect) (pair : List Trit) (pins : List Wave) (goods : ℕ → Trit) (outputs : List Wave) (flips : Flips)
    (is : IsFlatChip chip rank defect) (lasts : AreGoodLasts chip pair defect.instance pins goods)
    (faulty : AreFaultyLasts chip defect pins (λ output. (wave_at outputs output).last)) (flips_are : AreFlipsOf chip goods defect.instance outputs flips) where
  observed : (output : ℕ) → output < length chip.outputs → slice_index chip.outputs output < length chip.nets
  observed output within = is.chip_is.observed (slice_index chip.outputs output) (Contains-get_or chip.outputs output 0 within)

  module _ (answer : Option ℕ) (seen : IsSeenFrom chip goods defect.instance flips answer) where
    flipped : AreFlipped chip defect.instance goods (flipped_outputs chip defect.instance goods flips) seen.values
    flipped = swept_law chip rank pair defect.instance goods (flipped_outputs chip defect.instance goods flips) seen.values
        is.chip_is is.good_is is.defect_is.known lasts.lasts seen.clear.all_static seen.clear.definite seen.swept

    known : ℕ → Trit
    known output = (wave_at outputs output).last

    filled : AreFlipped chip defect.instance goods (filled_in chip defect.instance goods known) seen.values
    unfolding known
    filled = record {
      apart = flipped.apart;
      given = λ output within. flipped.given output within
          ∙ same_value (is_flipped flips output) (goods (output_net chip defect.instance output)) (wave_at outputs output).last (seen.clear.definite.outputs output within) (flips_are output within);
      following = flipped.following;
    }

    pub not_detected : (output : ℕ) → output < length chip.outputs → (IsOppositeAt goods seen.values chip.outputs output → ⊥) → DetectsAt chip defect pair (slice_index chip.outputs output) → ⊥
    unfolding known
    not_detected output within none detects = none (filled_law chip rank defect pair pins goods (λ o. (wave_at outputs o).last) seen.values (slice_index chip.outputs output)
        is lasts faulty filled (observed output within) detects)

    module _ (definite : (output : ℕ) → output < outputs_at chip defect.instance → (wave_at outputs output).last ≢ X) where
      exact : AreFlipped chip defect.instance goods (λ output. (wave_at outputs output).last) seen.values
      unfolding known
      exact = record {
        apart = filled.apart;
        given = λ output within. filled.given output within ∙ known_is (wave_at outputs output).last (goods (output_net chip defect.instance output)) (definite output within);
        following = filled.following;
      }

      pub detected : (output : ℕ) → output < length chip.outputs → IsOppositeAt goods seen.values chip.outputs output → DetectsAt chip defect pair (slice_index chip.outputs output)
      detected output within opposite = (flipped_law chip rank defect pair pins goods (λ o. (wave_at outputs o).last) seen.values (slice_index chip.outputs output)
          is lasts (λ o o_within leads. faulty o o_within) exact (observed output within)).1 opposite

  pub found_by : (known : Bool) (seen : Seen) → (known ≡ true → (output : ℕ) → output < outputs_at chip defect.instance → (wave_at outputs output).last ≢ X)
      → IsSeen chip goods defect.instance flips seen → IsFound chip defect pair (reported known seen)
  found_by known Undecided definite seen = tt
  found_by known Nowhere definite seen = λ output within. not_detected None seen output within (seen.first output within)
  found_by false (At output) definite seen = tt
  found_by true (At output) definite seen = (
    seen.first.0,
    detected (Some output) seen (definite refl) output seen.first.0 seen.first.1,
    λ before less. not_detected (Some output) seen before (let w = seen.first.0 in omega arith) (seen.first.2 before less),
  )

-- the waves of the instance's input nets and the good lasts, as the laws ask for them
pub good_lasts : (chip : Chip) (rank : ℕ → ℕ) (pair : List Trit) (u : ℕ) (waves pins : List Wave) (goods : ℕ → Trit) → IsChip chip rank → u < count_of chip
    → AreNetWaves chip None pair waves → AreWavesAt chip waves u pins → AreLastsOf chip pair goods → AreGoodLasts chip pair u pins goods
good_lasts chip rank pair u waves pins goods is known net_waves are lasts = record {
  pin_waves = λ good. record {
    count = are.count;
    each = λ pin within. are.each pin within ∙ net_waves.exact good (net_of chip u pin) (is.on_nets u pin known (omega arith));
  };
  lasts = lasts;
}

-- so what the cell gives
pub faulty_lasts : (chip : Chip) (defect : ChipDefect) (pins outputs : List Wave) → Gives (cell_at chip defect.instance) (faulty_of (cell_at chip defect.instance) defect.defect) pins outputs
    → AreFaultyLasts chip defect pins (λ output. (wave_at outputs output).last)
faulty_lasts chip defect pins outputs gives = λ output within first middle last limits. sym (ap (λ (wave : Wave). wave.last) (gives.each first middle last limits output within))
