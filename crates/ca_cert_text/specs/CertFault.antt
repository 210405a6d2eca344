-- What a text reads as, or which of its lines is the first that isn't of the form.
use Rattle.std.specs.Prelude.{ℕ, ◌+◌, ◌≡◌, ◌≤◌, ◌<◌, ◌⊎◌, List, ◌++◌, length, Result, Ok, Err}
use Rattle.ca_claim.specs.declared.claim.Claim.{Claim}
use Rattle.ca_claim.specs.declared.certificate.Certificate.{Certificate}
use Rattle.ca_cert_text.specs.declared.fault.CertFault.{CertFault}
use Rattle.ca_cert_text.specs.declared.fault.CertFault.TheVariants as fault
use Rattle.ca_cert_text.specs.declared.number.TheConstants.{MOST_BUDGET}
use Rattle.ca_cert_text.specs.CertText.{head_line, claim_line, claim_lines, certificate_text}
use Rattle.ca_cert_text.specs.CertText.{IsClaimOf, AreClaims, IsWritable}

-- the text doesn't begin with a first line of the form
abbrev pub HasNoHead : List ℕ → Type 0
HasNoHead text = (budget : ℕ) (rest : List ℕ) → budget ≤ MOST_BUDGET → text ≡ head_line budget ++ rest → ⊥

-- it doesn't begin with the line of a claim
abbrev pub HasNoClaim : List ℕ → Type 0
HasNoClaim text = (claim : Claim) (rest : List ℕ) → IsClaimOf claim → text ≡ claim_line claim ++ rest → ⊥

-- after lines of claims is more text, which doesn't begin with the line of a claim; the lines are counted
-- from 2
pub record HasFaultyClaim (text : List ℕ) (line : ℕ) : Type 0 where
  pub claims : List Claim
  pub are : AreClaims claims
  pub rest : List ℕ
  pub begins : text ≡ claim_lines claims ++ rest
  pub some : 0 < length rest
  pub no_claim : HasNoClaim rest
  pub at : line ≡ length claims + 2

-- the first line is of the form, and of those after it this is the first that isn't
pub record HasFaultyLine (text : List ℕ) (line : ℕ) : Type 0 where
  pub budget : ℕ
  pub few : budget ≤ MOST_BUDGET
  pub after : List ℕ
  pub begins : text ≡ head_line budget ++ after
  pub faulty : HasFaultyClaim after line

-- this line is the first that isn't of the form
abbrev pub IsFirstFaulty : List ℕ → ℕ → Type 0
IsFirstFaulty text line = ((line ≡ 1) × HasNoHead text) ⊎ HasFaultyLine text line

-- the text is that of the certificate
pub record IsTextOf (text : List ℕ) (certificate : Certificate) : Type 0 where
  pub writable : IsWritable certificate
  pub is : text ≡ certificate_text certificate

-- what is answered; out of memory is free
abbrev pub Reads : List ℕ → Result Certificate CertFault → Type 0
Reads text (Ok certificate) = IsTextOf text certificate
Reads text (Err (fault.At line)) = IsFirstFaulty text line
Reads text (Err fault.NoMemory) = Unit {0}
