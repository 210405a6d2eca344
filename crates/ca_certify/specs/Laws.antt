-- The laws by which the codes of searches and good verdicts make claims that stand.
use Rattle.std.specs.Prelude.{ℕ, ◌≡◌, Bool, List, length}
use Rattle.ca_flat.specs.declared.chip_defect.ChipDefect.{ChipDefect}
use Rattle.ca_flat.specs.declared.token.Token.{Token}
use Rattle.ca_flat.specs.Chip.{Chip}
use Rattle.ca_flat.specs.Codes.{IsWholeBy, IsSpentBy}
use Rattle.ca_read_code.specs.ClaimedCode.{claim_rules}
use Rattle.ca_code.specs.SearchRules.{search_rules}
use Rattle.ca_credit.specs.Defects.{Task, IsOfOneChip}
use Rattle.ca_credit.specs.Good.{IsGood}
use Rattle.ca_claim.specs.declared.claim.Claim.{Claim}
use Rattle.ca_claim.specs.declared.certificate.Answer.{Answer}
use Rattle.ca_claim.specs.declared.certificate.Answer.TheVariants.{Yes}
use Rattle.ca_claim.specs.Stands.{StandBelow, IsAnswer}
use Rattle.ca_certify.specs.Verdicts.{verdicts_of}
use Rattle.ca_certify.specs.Proven.{AllStand, AreProven}

-- a claim may have a code that a search writes: a whole one is whole, and a spent one is spent
pub record SearchIsClaimed (chip : Chip) (defect : ChipDefect) (code : List Token) : Type 0 where
  pub whole : IsWholeBy (search_rules chip defect) chip code → IsWholeBy (claim_rules chip defect) chip code
  pub spent : (budget : ℕ) → IsSpentBy (search_rules chip defect) chip budget code
      → IsSpentBy (claim_rules chip defect) chip budget code

-- each such code
abbrev pub SearchCodesAreClaimed : Type 0
SearchCodesAreClaimed =
    (chip : Chip) (defect : ChipDefect) (code : List Token) → SearchIsClaimed chip defect code

-- claims that give good verdicts stand, where those that a defect is untestable have whole codes
abbrev pub GoodClaimsStand : Type 0
GoodClaimsStand =
    (task : Task) (pairs : List (List Bool)) (aims : List ℕ) (claims : List Claim)
    → IsOfOneChip task → IsGood task pairs aims (verdicts_of claims) → AreProven task claims
    → AllStand task pairs claims

-- where every claim stands, no answer but yes is right
abbrev pub StandingIsYes : Type 0
StandingIsYes =
    (chip : Chip) (defects : List ChipDefect) (pairs : List (List Bool)) (budget : ℕ) (claims : List Claim)
    (answer : Answer) → StandBelow chip defects pairs budget claims (length claims)
    → IsAnswer chip defects pairs budget claims answer → answer ≡ Yes
