-- The lines of a text.
use Rattle.std.proofs.Common.{◌≡◌, ℕ, ◌<◌, ◌≤◌, List, [], ◌∷◌, ◌++◌, length, refl, sym, ap, ◌∙◌, arith}
use Rattle.std.proofs.Common.{None}
use Rattle.std.proofs.lemmas.List.{append_assoc}
use Rattle.ca_claim.specs.declared.claim.Claim.{Claim}
use Rattle.ca_cert_text.specs.declared.number.TheConstants.{MOST_BUDGET}
use Rattle.ca_cert_text.specs.CertText.{claim_words, claim_line, claim_lines, head_words, head_line, IsClaimOf}
use Rattle.ca_cert_text.specs.CertFault.{HasNoHead, HasNoClaim}
use Rattle.ca_cert_text.specs.code.Cut.{BeginsWith, IsOnlyCut}
use Rattle.ca_cert_text.specs.code.Reading.{IsClaimAt, IsBudgetAt}
use Rattle.ca_cert_text.proofs.FreeLemmas.{free_claim, free_head}
use Rattle.ca_cert_text.proofs.WordLemmas.{tail_of, whole_is, lines_push}

-- what begins with a byte is the byte and its tail
pub first_is : (byte : ℕ) (text : List ℕ) → 1 ≤ length text → BeginsWith byte text
    → text ≡ byte ∷ tail_of text
first_is byte [] some begins = absurd (omega (arith, some))
first_is byte (first ∷ rest) some begins =
    whole_is (first ∷ rest) some ∙ ap (λ (head : ℕ). head ∷ tail_of (first ∷ rest)) begins

module _ (text line after : List ℕ) (only : IsOnlyCut 10 text line after) where
  claim_parts : (claim : Claim) (rest : List ℕ) → IsClaimOf claim → text ≡ claim_line claim ++ rest
      → (claim_words claim ≡ line) × (10 ∷ rest ≡ after)
  claim_parts claim rest is begins = only (claim_words claim) (10 ∷ rest) (free_claim claim is) refl
      (begins ∙ append_assoc (claim_words claim) (10 ∷ []) rest)

  head_parts : (budget : ℕ) (rest : List ℕ) → budget ≤ MOST_BUDGET → text ≡ head_line budget ++ rest
      → (head_words budget ≡ line) × (10 ∷ rest ≡ after)
  head_parts budget rest few begins = only (head_words budget) (10 ∷ rest) (free_head budget few) refl
      (begins ∙ append_assoc (head_words budget) (10 ∷ []) rest)

  -- where no line feed is, no line is
  pub no_claim_end : length after < 1 → HasNoClaim text
  no_claim_end none claim rest is begins = omega (arith, none, ap length (claim_parts claim rest is begins).1)

  pub no_head_end : length after < 1 → HasNoHead text
  no_head_end none budget rest few begins = omega
      (arith, none, ap length (head_parts budget rest few begins).1)

  -- a line that isn't one of the form
  pub no_claim_line : IsClaimAt line None → HasNoClaim text
  no_claim_line none claim rest is begins = none claim is (sym (claim_parts claim rest is begins).0)

  pub no_head_line : IsBudgetAt line None → HasNoHead text
  no_head_line none budget rest few begins = none budget few (sym (head_parts budget rest few begins).0)

-- the claim that was read is one more of the text's
pub one_claim : (text : List ℕ) (claims new : List Claim) (rest line after : List ℕ) (claim : Claim)
    → text ≡ claim_lines claims ++ rest
    → rest ≡ line ++ after → 1 ≤ length after → BeginsWith 10 after → line ≡ claim_words claim
    → new ≡ claims ++ claim ∷ []
    → text ≡ claim_lines new ++ tail_of after
one_claim text claims new rest line after claim read parts some begins is pushed =
    let here : rest ≡ claim_line claim ++ tail_of after =
    parts ∙ (λ i. is i ++ first_is 10 after some begins i) ∙ sym
    (append_assoc (claim_words claim) (10 ∷ []) (tail_of after)) in
    read ∙ ap (λ (rest : List ℕ). claim_lines claims ++ rest) here
    ∙ sym (append_assoc (claim_lines claims) (claim_line claim) (tail_of after))
    ∙ ap (λ (front : List ℕ). front ++ tail_of after)
    (sym (lines_push claims claim) ∙ ap claim_lines (sym pushed))
