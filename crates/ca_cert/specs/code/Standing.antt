-- What only proofs of code cite: when a claim stands, by the first detection that was found.
use Rattle.std.specs.Prelude.{ℕ, ◌≡◌, List, Option, None, Some}
use Rattle.ca_flat.specs.declared.chip_defect.ChipDefect.{ChipDefect}
use Rattle.ca_flat.specs.declared.token.Token.{Token}
use Rattle.ca_flat.specs.Chip.{Chip}
use Rattle.ca_flat.specs.Codes.{IsSpentBy}
use Rattle.ca_claim.specs.declared.claim.Claim.{Claim}
use Rattle.ca_claim.specs.declared.claim.Claim.TheVariants.{Credited, Unexposable, Untestable, Aborted}
use Rattle.ca_flat.specs.Detection.{IsExposableIn}
use Rattle.ca_read_code.specs.ClaimedCode.{claim_rules}
use Rattle.ca_claim.specs.Stands.{IsProvenUntestable}
use Rattle.ca_cert.specs.declared.detection.Detection.{Detection}

-- nothing detects the defect, it can be exposed, and the code is spent
pub record IsAbortedBy (chip : Chip) (found : Option Detection) (budget : ℕ) (defect : ChipDefect)
    (code : List Token) : Type 0 where
  pub undetected : found ≡ None
  pub exposable : IsExposableIn chip defect
  pub spent : IsSpentBy (claim_rules chip defect) chip budget code

-- the claim stands, if this is the first detection
abbrev pub StandsBy : Chip → Option Detection → ℕ → ChipDefect → Claim → Type 0
StandsBy chip found budget defect (Credited pair output) =
    found ≡ Some (record { pair = pair; output = output })
StandsBy chip found budget defect Unexposable = ¬ (IsExposableIn chip defect)
StandsBy chip found budget defect (Untestable code) = IsProvenUntestable chip defect code
StandsBy chip found budget defect (Aborted code) = IsAbortedBy chip found budget defect code
