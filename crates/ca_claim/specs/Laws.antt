-- What standing claims say.
use Rattle.std.specs.Prelude.{ℕ, ◌≡◌, Bool, List, length, slice_get, Some}
use Rattle.ca_flat.specs.declared.chip_defect.ChipDefect.{ChipDefect}
use Rattle.ca_flat.specs.declared.token.Token.{Token}
use Rattle.ca_flat.specs.Chip.{Chip}
use Rattle.ca_flat.specs.Codes.{IsSpentCode}
use Rattle.ca_flat.specs.Waves.{IsFlatChip}
use Rattle.ca_claim.specs.declared.claim.Claim.{Claim}
use Rattle.ca_claim.specs.declared.claim.Claim.TheVariants.{Credited, Unexposable, Untestable, Aborted}
use Rattle.ca_claim.specs.declared.certificate.Answer.{Answer}
use Rattle.ca_claim.specs.declared.certificate.Answer.TheVariants.{Yes, No}
use Rattle.ca_flat.specs.Detection.{IsExposableIn, NoneDetects, IsUntestable, IsFirstDetection}
use Rattle.ca_claim.specs.Stands.{StandBelow}

-- the defect at this place of the list has the claim
pub record HasClaim (defects : List ChipDefect) (claims : List Claim) (place : ℕ) (defect : ChipDefect)
    (claim : Claim) : Type 0 where
  pub is_defect : slice_get defects place ≡ Some defect
  pub is_claim : slice_get claims place ≡ Some claim

-- the defect can be exposed, no listed pair detects it, and the code is spent
pub record IsRightlyAborted (chip : Chip) (pairs : List (List Bool)) (budget : ℕ) (defect : ChipDefect)
    (code : List Token) : Type 0 where
  pub exposable : IsExposableIn chip defect
  pub undetected : NoneDetects chip defect pairs
  pub spent : IsSpentCode chip defect budget code

-- each claim says what is so
pub record AreTrue (chip : Chip) (defects : List ChipDefect) (pairs : List (List Bool)) (budget : ℕ)
    (claims : List Claim) : Type 0 where
  pub one_each : length claims ≡ length defects
  -- a credit names the first pair that detects the defect, and the first output at which it does
  pub credited : (place pair output : ℕ) (defect : ChipDefect)
      → HasClaim defects claims place defect (Credited pair output)
      → IsFirstDetection chip defect pairs pair output
  -- unexposable exactly where no pair of vectors exposes the defect in its cell
  pub unexposable : (place : ℕ) (defect : ChipDefect) → HasClaim defects claims place defect Unexposable
      → ¬ (IsExposableIn chip defect)
  pub named_unexposable : (place : ℕ) (defect : ChipDefect) → slice_get defects place ≡ Some defect
      → ¬ (IsExposableIn chip defect) → HasClaim defects claims place defect Unexposable
  -- untestable only where no definite pair detects the defect
  pub untestable : (place : ℕ) (defect : ChipDefect) (code : List Token)
      → HasClaim defects claims place defect (Untestable code) → IsUntestable chip defect
  -- aborted only where no listed pair detects the defect, and the whole budget was spent
  pub aborted : (place : ℕ) (defect : ChipDefect) (code : List Token)
      → HasClaim defects claims place defect (Aborted code) → IsRightlyAborted chip pairs budget defect code

-- whoever made the claims
abbrev pub StandingClaimsAreTrue : Type 0
StandingClaimsAreTrue =
    (chip : Chip) (rank : ℕ → ℕ) (defects : List ChipDefect) (pairs : List (List Bool)) (budget : ℕ)
    (claims : List Claim)
    → ((place : ℕ) (defect : ChipDefect) → slice_get defects place ≡ Some defect
    → IsFlatChip chip rank defect)
    → length claims ≡ length defects → StandBelow chip defects pairs budget claims (length claims)
    → AreTrue chip defects pairs budget claims

-- where the answer is yes, each claim says what is so
abbrev pub IsYesTrue : Chip → List ChipDefect → List (List Bool) → ℕ → List Claim → Answer → Type 0
IsYesTrue chip defects pairs budget claims Yes = AreTrue chip defects pairs budget claims
IsYesTrue chip defects pairs budget claims (No defect) = Unit {0}
