-- Where the faulty lasts that lead to a net are definite, a defect is detected there exactly where they force it to
-- the opposite.
use Rattle.std.proofs.Common.{◌≡◌, ◌≢◌, ℕ, ◌<◌, refl, subst}
use Rattle.ca_net.specs.declared.trit.Trit.{Trit}
use Rattle.ca_net.specs.declared.trit.Trit.TheVariants.{Zero, One, X}
use Rattle.ca_flat.specs.Chip.{outputs_at, output_net}
use Rattle.ca_flips.specs.Flips.{known_or, filled_in, IsFaultyLast}
use Rattle.ca_flips.specs.Laws.{DetectedWhereForced}
use Rattle.ca_flips.proofs.ThereLemmas.{flipped_are_there_lem}
use Rattle.ca_flips.proofs.DetectLemmas.{known_below}
use Rattle.ca_flips.proofs.GoodLemmas.{detects_by, detected_is_flipped_lem, detected_is_forced_lem}

known_is : (known good : Trit) → known ≢ X → known ≡ known_or known good
known_is Zero good definite = refl
known_is One good definite = refl
known_is X good definite = absurd (definite refl)

known_definite : (known good : Trit) → good ≢ X → known_or known good ≢ X
known_definite Zero good definite e = cc
known_definite One good definite e = cc
known_definite X good definite e = definite e

pub detected_where_forced_lem : DetectedWhereForced
detected_where_forced_lem chip rank defect pair pins goods known net is are static definite given certain within = (
  detected_is_forced_lem chip rank defect pair pins goods known net is are given within,
  (λ forced. detects_by chip rank defect pair pins goods is are net within (λ out.
      flipped_are_there_lem chip rank defect.instance goods chosen is.chip_is is.defect_is.known static definite chosen_definite (λ values flipped.
      out ((detected_is_flipped_lem chip rank defect pair pins goods chosen values net is are
      (λ output k leads. subst (IsFaultyLast chip defect pins output) (known_is (known output) (goods (output_net chip defect.instance output)) (certain output k leads)) (given output k))
      flipped within).1
      (forced chosen values chosen_definite (λ output k. known_below (known output) (goods (output_net chip defect.instance output))) flipped))))),
)
  where
    chosen : ℕ → Trit
    chosen = filled_in chip defect.instance goods known

    chosen_definite : (output : ℕ) → output < outputs_at chip defect.instance → filled_in chip defect.instance goods known output ≢ X
    chosen_definite output k = known_definite (known output) (goods (output_net chip defect.instance output)) (definite.outputs output k)
