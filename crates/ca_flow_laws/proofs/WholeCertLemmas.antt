-- Of a text it can't be that it is no certificate and that none of its lines is the first faulty one.
use Rattle.std.proofs.Common.{ℕ, zero, suc, ◌+◌, ◌≡◌, ◌≤◌, ◌⊎◌, ◌∙◌, inl, inr, refl, sym, ap, arith, List, [], ◌∷◌, ◌++◌, length}
use Rattle.std.proofs.Common.{append_assoc, length-append}
use Rattle.ca_claim.specs.declared.claim.Claim.{Claim}
use Rattle.ca_claim.specs.declared.certificate.Certificate.{Certificate}
use Rattle.ca_cert_text.specs.declared.number.TheConstants.{MOST_BUDGET}
use Rattle.ca_cert_text.specs.CertText.{head_line, claim_words, claim_line, claim_lines, IsClaimOf, AreClaims}
use Rattle.ca_cert_text.specs.CertFault.{HasFaultyClaim, IsFirstFaulty, IsTextOf}
use Rattle.ca_flow_laws.proofs.FirstLemmas.{either}

-- the text begins with the line of a claim
record Begins (text : List ℕ) : Type 0 where
  claim : Claim
  is_claim : IsClaimOf claim
  rest : List ℕ
  is : text ≡ claim_line claim ++ rest

-- with a first line of the form
record HasHead (text : List ℕ) : Type 0 where
  budget : ℕ
  few : budget ≤ MOST_BUDGET
  rest : List ℕ
  is : text ≡ head_line budget ++ rest

-- lines are lines of claims, or one is the first that isn't
claims_or : (most : ℕ) (text : List ℕ) → length text ≤ most → ((line : ℕ) → HasFaultyClaim text line → ⊥)
    → ((claims : List Claim) → AreClaims claims → text ≡ claim_lines claims → ⊥) → ⊥
claims_or most [] within none refutes = refutes [] tt refl
claims_or zero (letter ∷ letters) within none refutes = absurd (omega (arith, within))
claims_or (suc most) (letter ∷ letters) within none refutes = either (Begins (letter ∷ letters)) (λ found. elim found [
  | inr not ↦ none 2 (record {
    claims = [];
    are = tt;
    rest = letter ∷ letters;
    begins = refl;
    some = omega arith;
    no_claim = λ claim rest is_claim is. not (record { claim = claim; is_claim = is_claim; rest = rest; is = is });
    at = refl;
  })
  | inl it ↦ (
      let long : length (letter ∷ letters) ≡ length (claim_words it.claim) + 1 + length it.rest =
      ap length it.is ∙ length-append (claim_line it.claim) it.rest
      ∙ ap (λ (n : ℕ). n + length it.rest) (length-append (claim_words it.claim) (10 ∷ [])) in
      claims_or most it.rest (omega (arith, long, within))
      (λ line faulty. let at = faulty.at in none (line + 1) (record {
        claims = it.claim ∷ faulty.claims;
        are = (it.is_claim, faulty.are);
        rest = faulty.rest;
        begins = it.is ∙ ap (λ (more : List ℕ). claim_line it.claim ++ more) faulty.begins
            ∙ sym (append_assoc (claim_line it.claim) (claim_lines faulty.claims) faulty.rest);
        some = faulty.some;
        no_claim = faulty.no_claim;
        at = omega (arith, at);
      }))
      (λ claims are is. refutes (it.claim ∷ claims) (it.is_claim, are)
      (it.is ∙ ap (λ (more : List ℕ). claim_line it.claim ++ more) is))
      )
])

-- a text is a certificate, or one of its lines is the first faulty one
pub cert_or : (text : List ℕ) → ((line : ℕ) → IsFirstFaulty text line → ⊥)
    → ((certificate : Certificate) → IsTextOf text certificate → ⊥) → ⊥
cert_or text none refutes = either (HasHead text) (λ found. elim found [
  | inr not ↦ none 1 (inl (refl, λ budget rest few is. not (record { budget = budget; few = few; rest = rest; is = is })))
  | inl it ↦ claims_or (length it.rest) it.rest (omega arith)
      (λ line faulty. none line (inr (record { budget = it.budget; few = it.few; after = it.rest; begins = it.is; faulty = faulty })))
      (λ claims are is. refutes (record { budget = it.budget; claims = claims })
      (record {
        writable = record { budget = it.few; claims = are };
        is = it.is ∙ ap (λ (more : List ℕ). head_line it.budget ++ more) is;
      }))
])
