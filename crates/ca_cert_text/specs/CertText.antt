-- The text of a certificate: a line with the budget, and a line for each claim.
use Rattle.std.specs.Prelude.{ℕ, ◌≤◌, ◌<◌, ◌^◌, true, false, List, [], ◌∷◌, ◌++◌, codes, decimal}
use Rattle.ca_flat.specs.declared.token.Token.{Token}
use Rattle.ca_flat.specs.declared.token.Token.TheVariants.{Branch, Leaf}
use Rattle.ca_claim.specs.declared.claim.Claim.{Claim}
use Rattle.ca_claim.specs.declared.claim.Claim.TheVariants.{Credited, Unexposable, Untestable, Aborted}
use Rattle.ca_claim.specs.declared.certificate.Certificate.{Certificate}
use Rattle.ca_cert_text.specs.declared.number.TheConstants.{MOST_BUDGET, GREATEST_BIT}

-- a token: `+12` and `-12` are branches on the bit 12, first to 1 and first to 0, and `.` is a leaf
abbrev pub token_word : Token → List ℕ
token_word (Branch bit true) = 43 ∷ decimal bit
token_word (Branch bit false) = 45 ∷ decimal bit
token_word Leaf = 46 ∷ []

-- the tokens of a code, each after a space
abbrev pub code_words : List Token → List ℕ
code_words [] = []
code_words (token ∷ code) = 32 ∷ (token_word token ++ code_words code)

-- the pair and the output of a credit
abbrev pub credit_words : ℕ → ℕ → List ℕ
credit_words pair output = 32 ∷ (decimal pair ++ 32 ∷ decimal output)

-- a claim: `c` and a credit, `x`, `u` and a code, or `a` and a code
abbrev pub claim_words : Claim → List ℕ
claim_words (Credited pair output) = 99 ∷ credit_words pair output
claim_words Unexposable = 120 ∷ []
claim_words (Untestable code) = 117 ∷ code_words code
claim_words (Aborted code) = 97 ∷ code_words code

-- its line
abbrev pub claim_line : Claim → List ℕ
claim_line claim = claim_words claim ++ 10 ∷ []

-- the lines of claims
abbrev pub claim_lines : List Claim → List ℕ
claim_lines [] = []
claim_lines (claim ∷ claims) = claim_line claim ++ claim_lines claims

-- the first line
abbrev pub head_words : ℕ → List ℕ
head_words budget = codes "cellaware certificate 1 budget " ++ decimal budget

abbrev pub head_line : ℕ → List ℕ
head_line budget = head_words budget ++ 10 ∷ []

-- the text
abbrev pub certificate_text : Certificate → List ℕ
certificate_text certificate = head_line certificate.budget ++ claim_lines certificate.claims

-- the token's bit isn't too great
abbrev pub IsTokenOf : Token → Type 0
IsTokenOf (Branch bit first) = bit ≤ GREATEST_BIT
IsTokenOf Leaf = Unit {0}

-- no bit of the code is
abbrev pub AreTokens : List Token → Type 0
AreTokens [] = Unit {0}
AreTokens (token ∷ code) = IsTokenOf token × AreTokens code

-- no number of the claim is
abbrev pub IsClaimOf : Claim → Type 0
IsClaimOf (Credited pair output) = (pair < 2 ^ 32) × (output < 2 ^ 32)
IsClaimOf Unexposable = Unit {0}
IsClaimOf (Untestable code) = AreTokens code
IsClaimOf (Aborted code) = AreTokens code

-- no number of these claims is
abbrev pub AreClaims : List Claim → Type 0
AreClaims [] = Unit {0}
AreClaims (claim ∷ claims) = IsClaimOf claim × AreClaims claims

-- no number of the certificate is too great
pub record IsWritable (certificate : Certificate) : Type 0 where
  pub budget : certificate.budget ≤ MOST_BUDGET
  pub claims : AreClaims certificate.claims
