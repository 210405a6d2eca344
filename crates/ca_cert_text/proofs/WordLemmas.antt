-- The words of a code and of a claim, one after another.
use Rattle.std.proofs.Common.{◌≡◌, ℕ, ◌+◌, ◌-◌, ◌<◌, ◌≤◌, ◌^◌, List, [], ◌∷◌, ◌++◌, length, take, drop, refl, sym, ap, ◌∙◌, subst}
use Rattle.std.proofs.Common.{arith, codes, decimal, slice_index_or, slice_get, get_or, Some, zero, suc}
use Rattle.std.proofs.lemmas.Option.{slice_get_within}
use Rattle.std.proofs.lemmas.List.{append_assoc, append-nil, take_rest, take_more}
use Rattle.std.proofs.lemmas.Fmt.{decimal_injective}
use Rattle.std.proofs.Math.Seq.{drop-append_seam}
use Rattle.ca_flat.specs.declared.token.Token.{Token}
use Rattle.ca_claim.specs.declared.claim.Claim.{Claim}
use Rattle.ca_cert_text.specs.CertText.{token_word, code_words, credit_words, claim_line, claim_lines}
use Rattle.ca_cert_text.specs.CertText.{head_words, IsTokenOf, AreTokens, IsClaimOf, AreClaims}
use Rattle.ca_cert_text.specs.code.Cut.{BeginsWith, IsOnlyCut}
use Rattle.ca_cert_text.specs.code.Reading.{IsCode}
use Rattle.ca_cert_text.proofs.FreeLemmas.{free_decimal, free_token}

-- all but the first byte
abbrev pub tail_of : List ℕ → List ℕ
tail_of text = take (length text - 1) (drop 1 text)

pub tail_is : (text : List ℕ) (first : ℕ) (rest : List ℕ) → text ≡ first ∷ rest → tail_of text ≡ rest
tail_is text first rest is = take_rest text 1 ∙ ap (drop 1) is

pub whole_is : (text : List ℕ) → 1 ≤ length text → text ≡ slice_index_or text 0 0 ∷ tail_of text
whole_is [] some = absurd (omega (arith, some))
whole_is (first ∷ rest) some = ap (λ (bytes : List ℕ). first ∷ bytes) (sym (take_rest (first ∷ rest) 1))

-- a text that is two numbers in digits is one number
pub same_number : (m n : ℕ) (digits : List ℕ) → m < 2 ^ 32 → n < 2 ^ 32 → digits ≡ decimal m
    → digits ≡ decimal n → m ≡ n
same_number m n digits small few one other =
    decimal_injective m n (omega (arith, small)) (omega (arith, few)) (sym one ∙ other)

-- one more token
pub tokens_push : (code new : List Token) (token : Token) → AreTokens code → IsTokenOf token
    → new ≡ code ++ token ∷ [] → AreTokens new
tokens_push code new token are is pushed = subst AreTokens (sym pushed) (by code are)
  where
    by : (code : List Token) → AreTokens code → AreTokens (code ++ token ∷ [])
    by [] are = (is, tt)
    by (first ∷ code) are = (are.0, by code are.1)

pub words_push : (code : List Token) (token : Token) → code_words
    (code ++ token ∷ []) ≡ code_words code ++ 32 ∷ token_word token
words_push [] token = ap (λ (words : List ℕ). 32 ∷ words) (append-nil (token_word token))
words_push (first ∷ code) token =
    ap (λ (words : List ℕ). 32 ∷ (token_word first ++ words)) (words_push code token)
    ∙ ap (λ (words : List ℕ). 32 ∷ words) (sym
    (append_assoc (token_word first) (code_words code) (32 ∷ token_word token)))

-- one more claim
pub claims_push : (claims new : List Claim) (claim : Claim) → AreClaims claims → IsClaimOf claim
    → new ≡ claims ++ claim ∷ [] → AreClaims new
claims_push claims new claim are is pushed = subst AreClaims (sym pushed) (by claims are)
  where
    by : (claims : List Claim) → AreClaims claims → AreClaims (claims ++ claim ∷ [])
    by [] are = (is, tt)
    by (first ∷ claims) are = (are.0, by claims are.1)

pub lines_push : (claims : List Claim) (claim : Claim)
    → claim_lines (claims ++ claim ∷ []) ≡ claim_lines claims ++ claim_line claim
lines_push [] claim = append-nil (claim_line claim)
lines_push (first ∷ claims) claim =
    ap (λ (lines : List ℕ). claim_line first ++ lines) (lines_push claims claim)
    ∙ sym (append_assoc (claim_line first) (claim_lines claims) (claim_line claim))

-- the first tokens, with the next
pub take_next : {A : Type 0} (xs : List A) (k : ℕ) (x : A) → slice_get xs k ≡ Some x
    → take (k + 1) xs ≡ take k xs ++ x ∷ []
take_next [] k x at = absurd (let lt = slice_get_within [] k x at in omega (arith, lt))
take_next (first ∷ xs) zero x at = let same : first ≡ x = cc in ap (λ y. y ∷ []) same
take_next (first ∷ xs) (suc k) x at =
    ap (λ n. take n (first ∷ xs)) (let s : suc k + 1 ≡ suc (k + 1) = omega arith in s) ∙ ap (λ l. first ∷ l)
    (take_next xs k x at)

-- the words of one more
pub words_next : (before text new : List ℕ) (code : List Token) (k : ℕ) (token : Token)
    → slice_get code k ≡ Some token
    → before ≡ text ++ code_words (take k code) → new ≡ (before ++ 32 ∷ []) ++ token_word token
    → new ≡ text ++ code_words (take (k + 1) code)
words_next before text new code k token at read is =
    is ∙ append_assoc before (32 ∷ []) (token_word token) ∙ ap
    (λ (front : List ℕ). front ++ 32 ∷ token_word token) read
    ∙ append_assoc text (code_words (take k code)) (32 ∷ token_word token)
    ∙ ap (λ (words : List ℕ). text ++ words) (sym (words_push (take k code) token) ∙ ap code_words
    (sym (take_next code k token at)))

-- the lines of one more
pub lines_next : (before text new : List ℕ) (claims items : List Claim) (k : ℕ) (claim : Claim)
    → items ≡ claims → k < length items
    → claim ≡ get_or items k claim → before ≡ text ++ claim_lines (take k claims)
    → new ≡ before ++ claim_line claim
    → new ≡ text ++ claim_lines (take (k + 1) claims)
lines_next before text new claims items k claim same within at read is =
    let next : take (k + 1) claims ≡ take k claims ++ claim ∷ [] =
    ap (take (k + 1)) (sym same) ∙ take_more items k claim within ∙ (λ i. take k (same i) ++ sym at i ∷ []) in
    is ∙ ap (λ (front : List ℕ). front ++ claim_line claim) read ∙ append_assoc text
    (claim_lines (take k claims)) (claim_line claim)
    ∙ ap (λ (lines : List ℕ). text ++ lines) (sym (lines_push (take k claims) claim) ∙ ap claim_lines
    (sym next))

-- what begins a code's text is a space
pub begins_code : (code : List Token) → BeginsWith 32 (code_words code)
begins_code [] = tt
begins_code (token ∷ code) = refl

module _ (rest word after : List ℕ) (some : 1 ≤ length rest)
    (only : IsOnlyCut 32 (tail_of rest) word after) where
  parts : (token : Token) (code : List Token) → IsTokenOf token → rest ≡ code_words (token ∷ code)
      → (token_word token ≡ word) × (code_words code ≡ after)
  parts token code is text = only (token_word token) (code_words code) (free_token token is 32 (omega arith))
      (begins_code code)
      (tail_is rest 32 (token_word token ++ code_words code) text)

  -- a code is left only where a token comes next
  pub no_token : ((token : Token) → IsTokenOf token → word ≡ token_word token → ⊥) → IsCode rest → ⊥
  no_token none code = by code.code code.are code.is
    where
      by : (code : List Token) → AreTokens code → rest ≡ code_words code → ⊥
      by [] are is = omega (arith, some, ap length is)
      by (token ∷ code) are is = none token are.0 (sym (parts token code are.0 is).0)

  -- and then a code is left after it
  pub next_code : IsCode rest → IsCode after
  next_code code = by code.code code.are code.is
    where
      by : (code : List Token) → AreTokens code → rest ≡ code_words code → IsCode after
      by [] are is = absurd (omega (arith, some, ap length is))
      by (token ∷ code) are is = record { code = code; are = are.1; is = sym (parts token code are.0 is).1 }

pub not_space : (rest : List ℕ) → 1 ≤ length rest → (slice_index_or rest 0 0 ≡ 32 → ⊥) → IsCode rest → ⊥
not_space rest some differs code = by code.code code.is
  where
    by : (code : List Token) → rest ≡ code_words code → ⊥
    by [] is = omega (arith, some, ap length is)
    by (token ∷ code) is = differs (ap (λ (text : List ℕ). slice_index_or text 0 0) is)

-- the token that was read is one more of the text's
pub one_token : (text : List ℕ) (code new : List Token) (rest word after : List ℕ) (token : Token)
    → text ≡ code_words code ++ rest
    → 1 ≤ length rest → slice_index_or rest 0 0 ≡ 32 → tail_of rest ≡ word ++ after → word ≡ token_word token
    → new ≡ code ++ token ∷ []
    → text ≡ code_words new ++ after
one_token text code new rest word after token read some space tail is pushed =
    let here : rest ≡ 32 ∷ (token_word token ++ after) = whole_is rest some ∙ (λ i. space i ∷ tail i) ∙ ap
    (λ (word : List ℕ). 32 ∷ (word ++ after)) is in
    read ∙ ap (λ (rest : List ℕ). code_words code ++ rest) here
    ∙ sym (append_assoc (code_words code) (32 ∷ token_word token) after)
    ∙ ap (λ (front : List ℕ). front ++ after) (sym (words_push code token) ∙ ap code_words (sym pushed))

-- the digits of the first line's budget
pub budget_digits : (line digits : List ℕ) (count budget : ℕ) → digits ≡ drop count line → count ≡ 31
    → line ≡ head_words budget
    → digits ≡ decimal budget
budget_digits line digits count budget is all line_is =
    is ∙ (λ i. drop (all i) (line_is i)) ∙ drop-append_seam (codes "cellaware certificate 1 budget ")
    (decimal budget)

-- the two numbers of a credit
pub credit_parts : (text word after : List ℕ) (pair output : ℕ) → pair < 2 ^ 32 → IsOnlyCut 32
    (tail_of text) word after
    → text ≡ credit_words pair output → (decimal pair ≡ word) × (32 ∷ decimal output ≡ after)
credit_parts text word after pair output few only is =
    only (decimal pair) (32 ∷ decimal output) (free_decimal 32 pair (omega arith) (omega (arith, few))) refl
    (tail_is text 32 (decimal pair ++ 32 ∷ decimal output) is)
