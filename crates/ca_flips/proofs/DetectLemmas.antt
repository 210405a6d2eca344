-- Detection by flipped values.
use Rattle.std.proofs.Common.{◌≡◌, ◌≢◌, ◌↔◌, ℕ, ◌<◌, List, length, Option, None, Some, inl, inr, refl, sym, ◌∙◌, subst}
use Rattle.ca_net.specs.declared.trit.Trit.{Trit}
use Rattle.ca_net.specs.declared.trit.Trit.TheVariants.{Zero, One, X}
use Rattle.ca_net.specs.declared.wave.Wave.{Wave}
use Rattle.ca_net.specs.Trit.{IsBelow}
use Rattle.ca_parts.proofs.TritLemmas.{same_stable, kept}
use Rattle.ca_flat.specs.declared.chip_defect.ChipDefect.{ChipDefect}
use Rattle.ca_flat.specs.Chip.{Chip, cell_at, outputs_at, output_net}
use Rattle.ca_flat.specs.Pair.{NetEndsAt, DetectsAt}
use Rattle.ca_flat.specs.Waves.{FlatWaves, wave_of, IsFlatChip}
use Rattle.ca_flat.proofs.Clashes.{opposite_definite, opposite_differs}
use Rattle.ca_flat.proofs.InstanceWaves.{ends_last, last_ends}
use Rattle.ca_flat.proofs.Detected.{good_flat, faulty_flat, some_faulty, detected_clashes}
use Rattle.ca_flips.specs.Static.{EndsByLast}
use Rattle.ca_flips.specs.Flips.{IsAfter, AreStaticAfter, AreDefiniteAfter, AreFlipped, IsOpposite, lasts_of}
use Rattle.ca_flips.specs.Flips.{vector_at, known_or, filled_in}
use Rattle.ca_flips.specs.Flips.{IsForced, ArePinWaves, AreFaultyLasts, AreFaultyLastsTo}
use Rattle.ca_flips.specs.Laws.{FlippedAreFaulty}
use Rattle.ca_flips.proofs.PinLemmas.{output_is}
use Rattle.ca_flips.proofs.VectorLemmas.{vector_definite}
use Rattle.ca_flips.proofs.FlipLemmas.{all_below, all_exact}
use Rattle.ca_flips.proofs.FaultyLemmas.{faulty_last}

-- what can't fail to be ended with is ended with
pub ends_stable : (chip : Chip) (o : Option ChipDefect) (pair : List Trit) (net : ℕ) (v : Trit) → ((NetEndsAt chip o pair net v → ⊥) → ⊥) → NetEndsAt chip o pair net v
ends_stable chip o pair net v out = record {
  definite = λ e. out (λ ends. ends.definite e);
  every_run = λ end run. same_stable _ _ (λ other. out (λ ends. other (ends.every_run end run)));
}

pub flipped_are_faulty_lem : FlippedAreFaulty
flipped_are_faulty_lem chip rank defect pair good faulty pins outputs values net is pin_waves given flipped within =
    all_exact chip rank defect is pair good faulty outputs values flipped net within
    (λ output k leads. faulty_last chip rank defect is pair good faulty pins pin_waves output (outputs output) k (given output k leads))

module _ (chip : Chip) (rank : ℕ → ℕ) (defect : ChipDefect) (is : IsFlatChip chip rank defect) (pair : List Trit) (good : FlatWaves chip None pair)
    (net : ℕ) (within : net < length chip.nets) where
  -- where the faulty last is the opposite of the good one, the defect is detected, and nowhere else
  pub clash_detects : (faulty : FlatWaves chip (Some defect) pair) → IsOpposite (lasts_of good net) (lasts_of faulty net) → DetectsAt chip defect pair net
  clash_detects faulty clash = record {
    value = lasts_of good net;
    good = last_ends chip rank None (good_flat chip rank defect is) pair good net _ within clash.0 refl;
    faulty = last_ends chip rank (Some defect) (faulty_flat chip rank defect is) pair faulty net _ within (opposite_definite _ clash.0) clash.1;
  }

  -- so that is detected which can't fail to be
  pub detects_stable : ((DetectsAt chip defect pair net → ⊥) → ⊥) → DetectsAt chip defect pair net
  detects_stable out =
      let definite : lasts_of good net ≢ X = λ e. out (λ detects. some_faulty chip rank defect is pair (λ faulty.
      (detected_clashes chip rank defect is pair good faulty net within detects).0 e)) in
      record {
        value = lasts_of good net;
        good = last_ends chip rank None (good_flat chip rank defect is) pair good net _ within definite refl;
        faulty = ends_stable chip (Some defect) pair net _ (λ none. out (λ detects. some_faulty chip rank defect is pair (λ faulty.
            let clash = detected_clashes chip rank defect is pair good faulty net within detects in
            none (last_ends chip rank (Some defect) (faulty_flat chip rank defect is) pair faulty net _ within (opposite_definite _ clash.0) clash.1))));
      }

  -- the good and another value are opposite where this can't fail
  pub opposite_stable : (other : Trit) → ((IsOpposite (lasts_of good net) other → ⊥) → ⊥) → IsOpposite (lasts_of good net) other
  opposite_stable other out = ((λ e. out (λ is. is.0 e)), same_stable _ _ (λ differs. out (λ is. differs is.1)))

pub detected_is_flipped_by_waves : (chip : Chip) (rank : ℕ → ℕ) (defect : ChipDefect) (pair : List Trit) (good : FlatWaves chip None pair) (pins : List Wave) (outputs values : ℕ → Trit) (net : ℕ)
    → IsFlatChip chip rank defect → ArePinWaves chip (wave_of good) defect.instance pins
    → AreFaultyLastsTo chip defect pins outputs net → AreFlipped chip defect.instance (lasts_of good) outputs values → net < length chip.nets
    → DetectsAt chip defect pair net ↔ IsOpposite (lasts_of good net) (values net)
detected_is_flipped_by_waves chip rank defect pair good pins outputs values net is pin_waves given flipped within =
    let exact = λ (faulty : FlatWaves chip (Some defect) pair).
    flipped_are_faulty_lem chip rank defect pair good faulty pins outputs values net is pin_waves given flipped within in (
      (λ detects. opposite_stable chip rank defect is pair good net within (values net) (λ out. some_faulty chip rank defect is pair (λ faulty.
          out (subst (IsOpposite (lasts_of good net)) (exact faulty) (detected_clashes chip rank defect is pair good faulty net within detects))))),
      (λ opposite. detects_stable chip rank defect is pair good net within (λ out. some_faulty chip rank defect is pair (λ faulty.
          out (clash_detects chip rank defect is pair good net within faulty (subst (IsOpposite (lasts_of good net)) (sym (exact faulty)) opposite))))),
    )

-- a value at or above an opposite one is opposite
pub opposite_above : (good low high : Trit) → IsOpposite good low → IsBelow low high → IsOpposite good high
opposite_above good low high opposite up = (opposite.0, kept low high (λ e. opposite_definite good opposite.0 (sym opposite.1 ∙ e)) up ∙ opposite.1)

pub flipped_are_ends_by_waves : (chip : Chip) (rank : ℕ → ℕ) (defect : ChipDefect) (pair : List Trit) (good : FlatWaves chip None pair) (pins : List Wave) (outputs values : ℕ → Trit) (net : ℕ) (v : Trit)
    → IsFlatChip chip rank defect → ArePinWaves chip (wave_of good) defect.instance pins
    → AreFaultyLastsTo chip defect pins outputs net → AreFlipped chip defect.instance (lasts_of good) outputs values → net < length chip.nets
    → ((v ≢ X) × (values net ≡ v)) ↔ NetEndsAt chip (Some defect) pair net v
flipped_are_ends_by_waves chip rank defect pair good pins outputs values net v is pin_waves given flipped within =
    let exact = λ (faulty : FlatWaves chip (Some defect) pair).
    flipped_are_faulty_lem chip rank defect pair good faulty pins outputs values net is pin_waves given flipped within in (
      (λ h. ends_stable chip (Some defect) pair net v (λ out. some_faulty chip rank defect is pair (λ faulty.
          out (last_ends chip rank (Some defect) (faulty_flat chip rank defect is) pair faulty net v within h.0 (exact faulty ∙ h.1))))),
      (λ ends. (
        ends.definite,
        same_stable _ _ (λ out. some_faulty chip rank defect is pair (λ faulty.
            out (sym (exact faulty) ∙ ends_last chip rank (Some defect) (faulty_flat chip rank defect is) pair faulty net v within ends))),
      )),
    )

pub known_below : (known good : Trit) → IsBelow known (known_or known good)
known_below Zero good = inr refl
known_below One good = inr refl
known_below X good = inl refl

pub detected_is_filled_in_by_waves : (chip : Chip) (rank : ℕ → ℕ) (defect : ChipDefect) (pair : List Trit) (good : FlatWaves chip None pair) (pins : List Wave) (known values : ℕ → Trit) (net : ℕ)
    → IsFlatChip chip rank defect → ArePinWaves chip (wave_of good) defect.instance pins
    → AreFaultyLasts chip defect pins known → AreFlipped chip defect.instance (lasts_of good) (filled_in chip defect.instance (lasts_of good) known) values
    → net < length chip.nets → DetectsAt chip defect pair net → IsOpposite (lasts_of good net) (values net)
detected_is_filled_in_by_waves chip rank defect pair good pins known values net is pin_waves given flipped within detects =
    opposite_stable chip rank defect is pair good net within (values net) (λ out. some_faulty chip rank defect is pair (λ faulty.
    out (opposite_above _ _ _ (detected_clashes chip rank defect is pair good faulty net within detects)
    (all_below chip rank defect is pair good faulty (filled_in chip defect.instance (lasts_of good) known) values flipped
    (λ output k. subst (λ x. IsBelow x (filled_in chip defect.instance (lasts_of good) known output))
    (sym (faulty_last chip rank defect is pair good faulty pins pin_waves output (known output) k (given output k)))
    (known_below (known output) (lasts_of good (output_net chip defect.instance output))))
    net within))))

pub detected_is_forced_by_waves : (chip : Chip) (rank : ℕ → ℕ) (defect : ChipDefect) (pair : List Trit) (good : FlatWaves chip None pair) (pins : List Wave) (known : ℕ → Trit) (net : ℕ)
    → IsFlatChip chip rank defect → ArePinWaves chip (wave_of good) defect.instance pins
    → AreFaultyLasts chip defect pins known → net < length chip.nets → DetectsAt chip defect pair net
    → IsForced chip defect.instance (lasts_of good) known net
detected_is_forced_by_waves chip rank defect pair good pins known net is pin_waves given within detects outputs values definite over flipped =
    opposite_stable chip rank defect is pair good net within (values net) (λ out. some_faulty chip rank defect is pair (λ faulty.
    out (opposite_above _ _ _ (detected_clashes chip rank defect is pair good faulty net within detects)
    (all_below chip rank defect is pair good faulty outputs values flipped
    (λ output k. subst (λ x. IsBelow x (outputs output)) (sym (faulty_last chip rank defect is pair good faulty pins pin_waves output (known output) k (given output k))) (over output k))
    net within))))

-- what isn't the opposite of a definite value is below it
below_unless_opposite : (good known : Trit) → (good ≡ X → ⊥) → (IsOpposite good known → ⊥) → IsBelow known good
below_unless_opposite good X definite none = inl refl
below_unless_opposite Zero Zero definite none = inr refl
below_unless_opposite Zero One definite none = absurd (none (definite, refl))
below_unless_opposite One Zero definite none = absurd (none (definite, refl))
below_unless_opposite One One definite none = inr refl
below_unless_opposite X Zero definite none = absurd (definite refl)
below_unless_opposite X One definite none = absurd (definite refl)

module _ (chip : Chip) (rank : ℕ → ℕ) (defect : ChipDefect) (is : IsFlatChip chip rank defect) (pair : List Trit) (good : FlatWaves chip None pair)
    (static : AreStaticAfter chip defect.instance) (definite : AreDefiniteAfter chip defect.instance (lasts_of good)) where
  -- the good lasts are those that flip nothing
  good_ends : (w output : ℕ) → IsAfter chip defect.instance w → output < outputs_at chip w
      → EndsByLast (cell_at chip w) (vector_at chip w (lasts_of good)) output (lasts_of good (output_net chip w output))
  good_ends w output following within =
      let end = static w following (vector_at chip w (lasts_of good)) (vector_definite chip w (lasts_of good) (λ pin k. definite.read w pin following k)) output within in
      subst (EndsByLast (cell_at chip w) (vector_at chip w (lasts_of good)) output)
      (sym (output_is chip rank None (good_flat chip rank defect is) w following.known pair good refl (lasts_of good) output end.value within end.ends (λ pin k. inr refl)))
      end.ends

  pub good_is_flipped : AreFlipped chip defect.instance (lasts_of good) (λ output. lasts_of good (output_net chip defect.instance output)) (lasts_of good)
  good_is_flipped = record { apart = λ net within off. refl; given = λ output within. refl; following = good_ends }

pub unflipped_is_undetected_by_waves : (chip : Chip) (rank : ℕ → ℕ) (defect : ChipDefect) (pair : List Trit) (good : FlatWaves chip None pair) (pins : List Wave) (known : ℕ → Trit) (net : ℕ)
    → IsFlatChip chip rank defect → ArePinWaves chip (wave_of good) defect.instance pins
    → AreStaticAfter chip defect.instance → AreDefiniteAfter chip defect.instance (lasts_of good) → AreFaultyLasts chip defect pins known
    → ((output : ℕ) → output < outputs_at chip defect.instance → IsOpposite (lasts_of good (output_net chip defect.instance output)) (known output) → ⊥)
    → net < length chip.nets → DetectsAt chip defect pair net → ⊥
unflipped_is_undetected_by_waves chip rank defect pair good pins known net is pin_waves static definite given none within detects =
    some_faulty chip rank defect is pair (λ faulty.
    let clash = detected_clashes chip rank defect is pair good faulty net within detects in
    let below = all_below chip rank defect is pair good faulty (λ output. lasts_of good (output_net chip defect.instance output)) (lasts_of good)
    (good_is_flipped chip rank defect is pair good static definite)
    (λ output k. subst (λ x. IsBelow x (lasts_of good (output_net chip defect.instance output)))
    (sym (faulty_last chip rank defect is pair good faulty pins pin_waves output (known output) k (given output k)))
    (below_unless_opposite _ _ (definite.outputs output k) (none output k))) net within in
    let up = opposite_above _ _ _ clash below in
    opposite_differs _ up.0 (sym up.1))
