-- Claims that stand on defects with good verdicts.
use Rattle.std.specs.Prelude.{ℕ, Bool, List, length}
use Rattle.ca_claim.specs.declared.claim.Claim.{Claim}
use Rattle.ca_claim.specs.declared.claim.Claim.TheVariants.{Untestable}
use Rattle.ca_claim.specs.Laws.{HasClaim}
use Rattle.ca_claim.specs.Stands.{IsProvenUntestable, StandBelow}
use Rattle.ca_flat.specs.declared.chip_defect.ChipDefect.{ChipDefect}
use Rattle.ca_flat.specs.declared.token.Token.{Token}
use Rattle.ca_credit.specs.Defects.{Task}

-- each claim on a defect of the task stands, for the listed pairs and the task's budget: the check answers
-- yes
abbrev pub AllStand : Task → List (List Bool) → List Claim → Type 0
AllStand task pairs claims =
    StandBelow task.chip task.defects pairs task.budget claims (length claims)

-- each claim that a defect is untestable has a whole code
abbrev pub AreProven : Task → List Claim → Type 0
AreProven task claims = (place : ℕ) (defect : ChipDefect) (code : List Token)
    → HasClaim task.defects claims place defect (Untestable code)
    → IsProvenUntestable task.chip defect code
