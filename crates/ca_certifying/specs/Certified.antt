-- What is promised of pairs, aims and a certificate of a linked chip, and the line that sums a certificate
-- up.
use Rattle.std.specs.Prelude.{ℕ, ◌≡◌, Bool, true, false, List, length}
use Rattle.std.specs.List.{filter}
use Rattle.ca_linked.specs.Linked.{LinkedChip}
use Rattle.ca_engine.specs.ChipTask.{task_of}
use Rattle.ca_credit.specs.Good.{IsGood}
use Rattle.ca_chip_report.specs.declared.summary.Summary.{Summary}
use Rattle.ca_chip_report.specs.Summary.{summary_line}
use Rattle.ca_claim.specs.declared.claim.Claim.{Claim}
use Rattle.ca_claim.specs.declared.claim.Claim.TheVariants.{Credited, Unexposable, Untestable, Aborted}
use Rattle.ca_claim.specs.declared.certificate.Certificate.{Certificate}
use Rattle.ca_certify.specs.Verdicts.{verdicts_of}
use Rattle.ca_certify.specs.Proven.{AllStand}
use Rattle.ca_certifying.specs.declared.summary.ClaimKind.{ClaimKind}
use Rattle.ca_certifying.specs.declared.summary.ClaimKind.TheVariants as kind

-- The certificate is for this budget. The pairs, their aims and the verdicts that its claims give keep the
-- promise of test generation for the chip's defects, and each claim stands: so the check of it answers yes.
pub record IsCertified (budget : ℕ) (chip : LinkedChip) (pairs : List (List Bool)) (aims : List ℕ)
    (certificate : Certificate) : Type 0 where
  pub budget_is : certificate.budget ≡ budget
  pub good : IsGood (task_of chip budget) pairs aims (verdicts_of certificate.claims)
  pub stand : AllStand (task_of chip budget) pairs certificate.claims

-- whether the claim is of the kind
abbrev pub is_claim_of : ClaimKind → Claim → Bool
is_claim_of kind.Credited (Credited pair output) = true
is_claim_of kind.Unexposable Unexposable = true
is_claim_of kind.Untestable (Untestable code) = true
is_claim_of kind.Aborted (Aborted code) = true
is_claim_of _ _ = false

-- how many of the claims are of the kind
abbrev pub claim_count : ClaimKind → List Claim → ℕ
claim_count kind claims = length (filter (is_claim_of kind) claims)

-- the numbers of all claims, of those of each kind, and of the pairs
abbrev pub claims_summary : List Claim → ℕ → Summary
claims_summary claims pairs = record {
  defects = length claims;
  credited = claim_count kind.Credited claims;
  unexposable = claim_count kind.Unexposable claims;
  untestable = claim_count kind.Untestable claims;
  aborted = claim_count kind.Aborted claims;
  pairs = pairs;
}

-- the line that says how many claims are of which kind, and how many pairs there are
abbrev pub certified_line : List Claim → ℕ → List ℕ
certified_line claims pairs = summary_line (claims_summary claims pairs)
