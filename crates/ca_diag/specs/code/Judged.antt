-- What the code finds of a defect under one pair, of which it knows the outputs that were logged.
use Rattle.std.specs.Prelude.{ℕ, ◌<◌, ◌⊎◌, List, length, slice_index, Option, Some, None}
use Rattle.std.specs.List.{Contains}
use Rattle.ca_net.specs.declared.trit.Trit.{Trit}
use Rattle.ca_net.specs.declared.trit.Trit.TheVariants.{Zero, One}
use Rattle.ca_flat.specs.declared.chip_defect.ChipDefect.{ChipDefect}
use Rattle.ca_flat.specs.Chip.{Chip}
use Rattle.ca_flat.specs.Pair.{DetectsAt, EndsAlike}
use Rattle.ca_credit.specs.declared.by_lasts.ByLasts.{ByLasts}
use Rattle.ca_credit.specs.declared.by_lasts.ByLasts.TheVariants as by_lasts
use Rattle.ca_diag.specs.declared.predict.Prediction.{Prediction}
use Rattle.ca_diag.specs.declared.predict.Prediction.TheVariants.{Fail, Pass, Unknown}
use Rattle.ca_diag.specs.declared.screen.Screen.{Screen}
use Rattle.ca_diag.specs.declared.screen.Screen.TheVariants.{Stays, Leaves, Undecided}
use Rattle.ca_diag.specs.Candidates.{AreSoMany}

-- the defect is detected at the observed output
abbrev pub FailsAt : Chip → ChipDefect → List Trit → ℕ → Type 0
FailsAt chip defect bits output = DetectsAt chip defect bits (slice_index chip.outputs output)

-- both flat networks end with one value there
abbrev pub PassesAt : Chip → ChipDefect → List Trit → ℕ → Type 0
PassesAt chip defect bits output = EndsAlike chip defect bits (slice_index chip.outputs output)

-- what the values with which the good and the faulty chip end say of a place
abbrev pub prediction_of : Trit → Trit → Prediction
prediction_of Zero Zero = Pass
prediction_of Zero One = Fail
prediction_of One Zero = Fail
prediction_of One One = Pass
prediction_of _ _ = Unknown

-- so it is
abbrev pub IsPrediction : Chip → ChipDefect → List Trit → ℕ → Prediction → Type 0
IsPrediction chip defect bits output Fail =
    FailsAt chip defect bits output × ¬ (PassesAt chip defect bits output)
IsPrediction chip defect bits output Pass =
    ¬ (FailsAt chip defect bits output) × PassesAt chip defect bits output
IsPrediction chip defect bits output Unknown =
    ¬ (FailsAt chip defect bits output) × ¬ (PassesAt chip defect bits output)

-- the output was logged and the defect predicts a pass there, or it wasn't and the defect predicts a fail
abbrev pub IsAgainstAt : Chip → List Trit → List ℕ → ChipDefect → ℕ → Type 0
IsAgainstAt chip bits outputs defect output =
    (Contains outputs output × PassesAt chip defect bits output)
    ⊎ (¬ (Contains outputs output) × FailsAt chip defect bits output)

-- so it is at some observed output
pub record IsAgainstSome (chip : Chip) (bits : List Trit) (outputs : List ℕ) (defect : ChipDefect) : Type 0
  where
    pub output : ℕ
    pub within : output < length chip.outputs
    pub against : IsAgainstAt chip bits outputs defect output

-- what was found: that some output is against the defect; or that none is, and at how many of the outputs
-- that were logged it predicts a fail
abbrev pub IsJudged : Chip → List Trit → List ℕ → ChipDefect → Option ℕ → Type 0
IsJudged chip bits outputs defect None = IsAgainstSome chip bits outputs defect
IsJudged chip bits outputs defect (Some more) =
    ¬ (IsAgainstSome chip bits outputs defect) × AreSoMany (FailsAt chip defect bits) outputs more

-- the same without waves, where they aren't needed
abbrev pub IsScreened : Chip → List Trit → List ℕ → ChipDefect → Screen → Type 0
IsScreened chip bits outputs defect Stays = IsJudged chip bits outputs defect (Some 0)
IsScreened chip bits outputs defect Leaves = IsJudged chip bits outputs defect None
IsScreened chip bits outputs defect Undecided = Unit {0}

-- the output, if there is one, is one of this many
abbrev pub IsWithin : ℕ → ByLasts → Type 0
IsWithin outputs by_lasts.Undecided = Unit {0}
IsWithin outputs by_lasts.Nowhere = Unit {0}
IsWithin outputs (by_lasts.At output) = output < outputs
