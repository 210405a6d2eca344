-- When a claim stands.
use Rattle.std.specs.Prelude.{ℕ, ◌≡◌, ◌<◌, Bool, List, length, slice_get, Some}
use Rattle.ca_flat.specs.declared.chip_defect.ChipDefect.{ChipDefect}
use Rattle.ca_flat.specs.declared.token.Token.{Token}
use Rattle.ca_flat.specs.Chip.{Chip}
use Rattle.ca_flat.specs.Codes.{IsWholeBy, IsSpentBy}
use Rattle.ca_claim.specs.declared.claim.Claim.{Claim}
use Rattle.ca_claim.specs.declared.claim.Claim.TheVariants.{Credited, Unexposable, Untestable, Aborted}
use Rattle.ca_claim.specs.declared.certificate.Answer.{Answer}
use Rattle.ca_claim.specs.declared.certificate.Answer.TheVariants.{Yes, No}
use Rattle.ca_flat.specs.Detection.{IsExposableIn, NoneDetects, IsFirstDetection}
use Rattle.ca_read_code.specs.ClaimedCode.{claim_rules}

-- the defect can be exposed, and the code is a whole one
pub record IsProvenUntestable (chip : Chip) (defect : ChipDefect) (code : List Token) : Type 0 where
  pub exposable : IsExposableIn chip defect
  pub whole : IsWholeBy (claim_rules chip defect) chip code

-- the defect can be exposed, no listed pair detects it, and the code is spent for the budget
pub record IsProvenAborted (chip : Chip) (pairs : List (List Bool)) (budget : ℕ) (defect : ChipDefect)
    (code : List Token) : Type 0 where
  pub exposable : IsExposableIn chip defect
  pub undetected : NoneDetects chip defect pairs
  pub spent : IsSpentBy (claim_rules chip defect) chip budget code

-- the claim on the defect stands, for the listed pairs and the budget
abbrev pub Stands : Chip → List (List Bool) → ℕ → ChipDefect → Claim → Type 0
Stands chip pairs budget defect (Credited pair output) = IsFirstDetection chip defect pairs pair output
Stands chip pairs budget defect Unexposable = ¬ (IsExposableIn chip defect)
Stands chip pairs budget defect (Untestable code) = IsProvenUntestable chip defect code
Stands chip pairs budget defect (Aborted code) = IsProvenAborted chip pairs budget defect code

-- the claim at the place is one on the defect there, and stands
pub record StandsAt (chip : Chip) (defects : List ChipDefect) (pairs : List (List Bool)) (budget : ℕ)
    (claims : List Claim) (place : ℕ) : Type 0 where
  pub defect : ChipDefect
  pub is_defect : slice_get defects place ≡ Some defect
  pub claim : Claim
  pub is_claim : slice_get claims place ≡ Some claim
  pub stands : Stands chip pairs budget defect claim

-- each of the first `count` claims stands
abbrev pub StandBelow : Chip → List ChipDefect → List (List Bool) → ℕ → List Claim → ℕ → Type 0
StandBelow chip defects pairs budget claims count =
    (place : ℕ) → place < count → StandsAt chip defects pairs budget claims place

-- the claim at the place is the first that doesn't stand
pub record IsFirstFalse (chip : Chip) (defects : List ChipDefect) (pairs : List (List Bool)) (budget : ℕ)
    (claims : List Claim) (place : ℕ) : Type 0 where
  pub within : place < length claims
  pub falls : ¬ (StandsAt chip defects pairs budget claims place)
  pub before : StandBelow chip defects pairs budget claims place

-- yes exactly where every claim stands, and else no with the first that doesn't
abbrev pub IsAnswer : Chip → List ChipDefect → List (List Bool) → ℕ → List Claim → Answer → Type 0
IsAnswer chip defects pairs budget claims Yes = StandBelow chip defects pairs budget claims (length claims)
IsAnswer chip defects pairs budget claims (No defect) = IsFirstFalse chip defects pairs budget claims defect
