-- Which bytes words and lines don't have.
use Rattle.std.proofs.Common.{◌≡◌, ℕ, ◌+◌, ◌<◌, ◌≤◌, ◌^◌, ◌%◌, ◌==◌, not, ◌&&◌, Bool, true, false, List, [], ◌∷◌, ◌++◌, refl, sym, ◌∙◌}
use Rattle.std.proofs.Common.{arith, codes, decimal}
use Rattle.std.proofs.lemmas.Bool.{eq-eqb}
use Rattle.std.proofs.lemmas.Fmt.{decimal_by_steps}
use Rattle.ca_flat.specs.declared.token.Token.{Token}
use Rattle.ca_flat.specs.declared.token.Token.TheVariants.{Branch, Leaf}
use Rattle.ca_claim.specs.declared.claim.Claim.{Claim}
use Rattle.ca_claim.specs.declared.claim.Claim.TheVariants.{Credited, Unexposable, Untestable, Aborted}
use Rattle.ca_cert_text.specs.declared.number.TheConstants.{MOST_BUDGET}
use Rattle.ca_cert_text.specs.CertText.{token_word, code_words, claim_words, head_words, IsTokenOf, AreTokens, IsClaimOf}
use Rattle.ca_cert_text.specs.code.Cut.{IsFree}

pub free_none : (byte : ℕ) → IsFree byte []
unfolding IsFree
free_none byte = tt

pub free_one : (byte first : ℕ) (rest : List ℕ) → (first ≡ byte → ⊥) → IsFree byte rest → IsFree byte
    (first ∷ rest)
unfolding IsFree
free_one byte first rest not free = (not, free)

pub free_both : (byte : ℕ) (front rest : List ℕ) → IsFree byte front → IsFree byte rest → IsFree byte
    (front ++ rest)
unfolding IsFree
free_both byte [] rest one two = two
free_both byte (first ∷ front) rest one two = (one.0, free_both byte front rest one.1 two)

-- digits are neither spaces nor line feeds
pub free_decimal : (byte number : ℕ) → byte < 48 → number < 2 ^ 64 → IsFree byte (decimal number)
free_decimal byte number low few = decimal_by_steps (λ m digits. IsFree byte digits)
    (λ m below. free_one byte (48 + m) [] (λ e. omega (arith, e, low)) (free_none byte))
    (λ m digits more before. free_both byte digits ((48 + m % 10) ∷ []) before
    (free_one byte (48 + m % 10) [] (λ e. omega (arith, e, low)) (free_none byte)))
    number few

pub free_token : (token : Token) → IsTokenOf token → (byte : ℕ) → byte < 43 → IsFree byte (token_word token)
free_token Leaf is byte low = free_one byte 46 [] (λ e. omega (arith, e, low)) (free_none byte)
free_token (Branch bit true) is byte low =
    free_one byte 43 (decimal bit) (λ e. omega (arith, e, low))
    (free_decimal byte bit (omega (arith, low)) (omega (arith, is)))
free_token (Branch bit false) is byte low =
    free_one byte 45 (decimal bit) (λ e. omega (arith, e, low))
    (free_decimal byte bit (omega (arith, low)) (omega (arith, is)))

pub free_code : (code : List Token) → AreTokens code → IsFree 10 (code_words code)
free_code [] are = free_none 10
free_code (token ∷ code) are = free_one 10 32 _ (λ e. omega (arith, e))
    (free_both 10 (token_word token) (code_words code) (free_token token are.0 10 (omega arith))
    (free_code code are.1))

pub free_claim : (claim : Claim) → IsClaimOf claim → IsFree 10 (claim_words claim)
free_claim (Credited pair output) is = free_one 10 99 _ (λ e. omega (arith, e))
    (free_one 10 32 _ (λ e. omega (arith, e))
    (free_both 10 (decimal pair) (32 ∷ decimal output)
    (free_decimal 10 pair (omega arith) (let few = is.0 in omega (arith, few)))
    (free_one 10 32 _ (λ e. omega (arith, e))
    (free_decimal 10 output (omega arith) (let few = is.1 in omega (arith, few))))))
free_claim Unexposable is = free_one 10 120 [] (λ e. omega (arith, e)) (free_none 10)
free_claim (Untestable code) is = free_one 10 117 _ (λ e. omega (arith, e)) (free_code code is)
free_claim (Aborted code) is = free_one 10 97 _ (λ e. omega (arith, e)) (free_code code is)

-- a test for bytes that are all others
abbrev lacks : ℕ → List ℕ → Bool
lacks byte [] = true
lacks byte (first ∷ rest) = not (first == byte) && lacks byte rest

false_is_true : false ≡ true → ⊥
false_is_true = λ e. cc

free_by_test : (byte : ℕ) (bytes : List ℕ) → lacks byte bytes ≡ true → IsFree byte bytes
free_by_test byte [] is = free_none byte
free_by_test byte (first ∷ rest) is = by (free_by_test byte rest) (first == byte) refl is
  where
    by : (lacks byte rest ≡ true → IsFree byte rest) → (test : Bool) → (first == byte) ≡ test →
        (not test && lacks byte rest) ≡ true
        → IsFree byte (first ∷ rest)
    by later true same is = absurd (false_is_true is)
    by later false same is =
        free_one byte first rest (λ e. false_is_true (sym same ∙ eq-eqb first byte e)) (later is)

pub free_head : (budget : ℕ) → budget ≤ MOST_BUDGET → IsFree 10 (head_words budget)
free_head budget few = free_both 10 (codes "cellaware certificate 1 budget ") (decimal budget)
    (free_by_test 10 (codes "cellaware certificate 1 budget ") refl)
    (free_decimal 10 budget (omega arith) (omega (arith, few)))
