-- What a claim says of a defect with a verdict, and what is known of such a defect.
use Rattle.std.specs.Prelude.{ℕ, ◌≡◌, ◌≤◌, List, length, slice_get, Some, All}
use Rattle.ca_code.specs.Tokens.{IsNarrow}
use Rattle.ca_flat.specs.declared.chip_defect.ChipDefect.{ChipDefect}
use Rattle.ca_flat.specs.declared.token.Token.{Token}
use Rattle.ca_flat.specs.Chip.{Chip}
use Rattle.ca_flat.specs.Codes.{IsWholeBy}
use Rattle.ca_code.specs.Ends.{IsSpentSearch}
use Rattle.ca_code.specs.SearchRules.{search_rules}
use Rattle.ca_credit.specs.declared.verdict.Verdict.{Verdict}
use Rattle.ca_credit.specs.declared.verdict.Verdict.TheVariants as verdict
use Rattle.ca_credit.specs.Defects.{IsExposableIn, IsSearchable}
use Rattle.ca_credit.specs.Detection.{IsUntestable}
use Rattle.ca_claim.specs.declared.claim.Claim.{Claim}
use Rattle.ca_claim.specs.declared.claim.Claim.TheVariants.{Credited, Unexposable, Untestable, Aborted}

-- the defect may be searched for, and no pair detects it
pub record IsHopeless (chip : Chip) (defect : ChipDefect) : Type 0 where
  pub searchable : IsSearchable chip defect
  pub untestable : IsUntestable chip defect

-- the claim has the code of a search for the defect that came to an end, or spent its budget
abbrev pub IsSearchClaim : Chip → ℕ → ChipDefect → Claim → Type 0
IsSearchClaim chip budget defect (Credited pair output) = ⊥
IsSearchClaim chip budget defect Unexposable = ⊥
IsSearchClaim chip budget defect (Untestable code) = IsWholeBy (search_rules chip defect) chip code
IsSearchClaim chip budget defect (Aborted code) = IsSpentSearch chip budget defect code

-- such a claim on a defect that can be exposed
pub record IsProvenClaim (chip : Chip) (budget : ℕ) (defect : ChipDefect) (claim : Claim) : Type 0 where
  pub exposable : IsExposableIn chip defect
  pub searched : IsSearchClaim chip budget defect claim

-- the claim says what the verdict says; of a defect that is untestable, with the code of a search
abbrev pub IsClaimOn : Chip → ℕ → ChipDefect → Verdict → Claim → Type 0
IsClaimOn chip budget defect (verdict.Credited pair output) claim = claim ≡ Credited pair output
IsClaimOn chip budget defect verdict.Unexposable claim = claim ≡ Unexposable
IsClaimOn chip budget defect verdict.Untestable claim = IsProvenClaim chip budget defect claim
IsClaimOn chip budget defect (verdict.Aborted code) claim = claim ≡ Aborted code

-- no pair detects the defect, and it isn't so that no pair of vectors exposes it in its cell
pub record IsKnownUntestable (chip : Chip) (defect : ChipDefect) : Type 0 where
  pub exposable : (IsExposableIn chip defect → ⊥) → ⊥
  pub untestable : IsUntestable chip defect

-- what is known of a defect with the verdict; the tokens of a code fit into two bytes
abbrev pub IsKnown : Chip → ChipDefect → Verdict → Type 0
IsKnown chip defect (verdict.Credited pair output) = Unit {0}
IsKnown chip defect verdict.Unexposable = Unit {0}
IsKnown chip defect verdict.Untestable = IsKnownUntestable chip defect
IsKnown chip defect (verdict.Aborted code) = All IsNarrow code

-- that is known of each defect of the list
abbrev pub AreKnown : Chip → List ChipDefect → List Verdict → Type 0
AreKnown chip defects verdicts = (place : ℕ) (defect : ChipDefect) (verdict : Verdict)
    → slice_get defects place ≡ Some defect → slice_get verdicts place ≡ Some verdict
    → IsKnown chip defect verdict

-- the claims are on the first defects of the list, which have these verdicts
pub record AreClaimsOn (chip : Chip) (budget : ℕ) (defects : List ChipDefect) (verdicts : List Verdict)
    (claims : List Claim) : Type 0 where
  pub within : length claims ≤ length verdicts
  pub each : (place : ℕ) (defect : ChipDefect) (verdict : Verdict) (claim : Claim)
      → slice_get defects place ≡ Some defect → slice_get verdicts place ≡ Some verdict
      → slice_get claims place ≡ Some claim → IsClaimOn chip budget defect verdict claim
