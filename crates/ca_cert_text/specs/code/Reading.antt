-- What only proofs of code cite: what parts of lines are read as.
use Rattle.std.specs.Prelude.{ℕ, ◌≡◌, ◌≤◌, ◌<◌, ◌^◌, Bool, List, [], ◌∷◌, decimal}
use Rattle.std.specs.Prelude.{Option, None, Some, Result, Ok, Err}
use Rattle.ca_flat.specs.declared.token.Token.{Token}
use Rattle.ca_flat.specs.declared.token.Token.TheVariants.{Branch, Leaf}
use Rattle.ca_claim.specs.declared.claim.Claim.{Claim}
use Rattle.ca_claim.specs.declared.claim.Claim.TheVariants.{Credited}
use Rattle.ca_cert_text.specs.declared.fault.CertFault.{CertFault}
use Rattle.ca_cert_text.specs.declared.fault.CertFault.TheVariants as fault
use Rattle.ca_cert_text.specs.declared.number.TheConstants.{MOST_BUDGET, GREATEST_BIT}
use Rattle.ca_cert_text.specs.CertText.{token_word, code_words, credit_words, claim_words, claim_lines}
use Rattle.ca_cert_text.specs.CertText.{head_words, IsTokenOf, AreTokens, IsClaimOf, AreClaims}
use Rattle.ca_cert_text.specs.CertFault.{HasFaultyClaim}

-- the word is the decimal digits of this number below 2^32
abbrev pub IsNumber : List ℕ → ℕ → Type 0
IsNumber word number = (number < 2 ^ 32) × (word ≡ decimal number)

-- it isn't those of any
abbrev pub IsNoNumber : List ℕ → Type 0
IsNoNumber word = (number : ℕ) → number < 2 ^ 32 → word ≡ decimal number → ⊥

-- the branch on the bit that these digits are, if they are one
abbrev pub IsBranchAt : Bool → List ℕ → Option Token → Type 0
IsBranchAt first digits None = (bit : ℕ) → bit ≤ GREATEST_BIT → digits ≡ decimal bit → ⊥
IsBranchAt first digits (Some Leaf) = ⊥
IsBranchAt first digits (Some (Branch bit one)) =
    (bit ≤ GREATEST_BIT) × (one ≡ first) × (digits ≡ decimal bit)

-- the token that a word is, if it is one
abbrev pub IsTokenAt : List ℕ → Option Token → Type 0
IsTokenAt word None = (token : Token) → IsTokenOf token → word ≡ token_word token → ⊥
IsTokenAt word (Some token) = IsTokenOf token × (word ≡ token_word token)

-- the code that a text is, if it is one
abbrev pub IsCodeAt : List ℕ → Option (List Token) → Type 0
IsCodeAt text None = (code : List Token) → AreTokens code → text ≡ code_words code → ⊥
IsCodeAt text (Some code) = AreTokens code × (text ≡ code_words code)

-- the claim that a line is, if it is one
abbrev pub IsClaimAt : List ℕ → Option Claim → Type 0
IsClaimAt line None = (claim : Claim) → IsClaimOf claim → line ≡ claim_words claim → ⊥
IsClaimAt line (Some claim) = IsClaimOf claim × (line ≡ claim_words claim)

-- the claims that lines of these kinds are, by what comes after their first byte
abbrev pub IsCreditAt : List ℕ → Option Claim → Type 0
IsCreditAt text None =
    (pair output : ℕ) → IsClaimOf (Credited pair output) → text ≡ credit_words pair output → ⊥
IsCreditAt text (Some claim) = IsClaimAt (99 ∷ text) (Some claim)

abbrev pub IsUnexposableAt : List ℕ → Option Claim → Type 0
IsUnexposableAt text None = text ≡ [] → ⊥
IsUnexposableAt text (Some claim) = IsClaimAt (120 ∷ text) (Some claim)

abbrev pub IsUntestableAt : List ℕ → Option Claim → Type 0
IsUntestableAt text None = IsCodeAt text None
IsUntestableAt text (Some claim) = IsClaimAt (117 ∷ text) (Some claim)

abbrev pub IsAbortedAt : List ℕ → Option Claim → Type 0
IsAbortedAt text None = IsCodeAt text None
IsAbortedAt text (Some claim) = IsClaimAt (97 ∷ text) (Some claim)

-- the budget that a first line says, if it says one
abbrev pub IsBudgetAt : List ℕ → Option ℕ → Type 0
IsBudgetAt line None = (budget : ℕ) → budget ≤ MOST_BUDGET → line ≡ head_words budget → ⊥
IsBudgetAt line (Some budget) = (budget ≤ MOST_BUDGET) × (line ≡ head_words budget)

-- the claims that the lines after the first are, or the first of them that is none
abbrev pub AreClaimsAt : List ℕ → Result (List Claim) CertFault → Type 0
AreClaimsAt text (Ok claims) = AreClaims claims × (text ≡ claim_lines claims)
AreClaimsAt text (Err (fault.At line)) = HasFaultyClaim text line
AreClaimsAt text (Err fault.NoMemory) = Unit {0}

-- the text is a code
pub record IsCode (text : List ℕ) : Type 0 where
  pub code : List Token
  pub are : AreTokens code
  pub is : text ≡ code_words code

-- where the text is a code, so is what is left of it
abbrev pub Leaves : List ℕ → List ℕ → Type 0
Leaves text rest = IsCode text → IsCode rest
