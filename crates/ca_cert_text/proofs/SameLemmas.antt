-- A text is the text of one certificate.
use Rattle.std.proofs.Common.{◌≡◌, ℕ, ◌+◌, ◌≤◌, true, false, List, [], ◌∷◌, ◌++◌}
use Rattle.std.proofs.Common.{length, drop, refl, sym, ap, ◌∙◌, arith, inl, inr, length-append}
use Rattle.std.proofs.Common.{slice_index_or, codes, decimal, Ok, Err}
use Rattle.std.proofs.lemmas.List.{append_assoc, append-nil, append_cancel_left}
use Rattle.std.proofs.lemmas.Fmt.{decimal_injective}
use Rattle.ca_flat.specs.declared.token.Token.{Token}
use Rattle.ca_flat.specs.declared.token.Token.TheVariants.{Branch, Leaf}
use Rattle.ca_claim.specs.declared.claim.Claim.{Claim}
use Rattle.ca_claim.specs.declared.claim.Claim.TheVariants.{Credited, Unexposable, Untestable, Aborted}
use Rattle.ca_claim.specs.declared.certificate.Certificate.{Certificate}
use Rattle.ca_cert_text.specs.declared.fault.CertFault.TheVariants as fault
use Rattle.ca_cert_text.specs.declared.number.TheConstants.{MOST_BUDGET}
use Rattle.ca_cert_text.specs.CertText.{token_word, code_words, claim_words, claim_line, claim_lines}
use Rattle.ca_cert_text.specs.CertText.{head_words, head_line, IsTokenOf, AreTokens, IsClaimOf, AreClaims}
use Rattle.ca_cert_text.specs.CertFault.{HasNoClaim}
use Rattle.ca_cert_text.specs.Laws.{TextIsRead, FaultyLineIsOne}
use Rattle.ca_cert_text.specs.code.Cut.{IsFree, BeginsWith}
use Rattle.ca_cert_text.proofs.CutLemmas.{cut_only}
use Rattle.ca_cert_text.proofs.FreeLemmas.{free_decimal, free_token, free_claim, free_head}
use Rattle.ca_cert_text.proofs.WordLemmas.{begins_code}

-- two cuts of one text are one
same_cut : (byte : ℕ) (front rest other after : List ℕ) → IsFree byte front → IsFree byte other
    → BeginsWith byte rest → BeginsWith byte after → front ++ rest ≡ other ++ after
    → (front ≡ other) × (rest ≡ after)
same_cut byte front rest other after one two begins ends is =
    let first = cut_only byte (front ++ rest) front rest one begins refl in
    let second = cut_only byte (front ++ rest) other after two ends is in
    (first.0 ∙ sym second.0, first.1 ∙ sym second.1)

head : List ℕ → ℕ
head bytes = slice_index_or bytes 0 0

-- tokens with one word are one
same_token : (one other : Token) → IsTokenOf one → IsTokenOf other → token_word one ≡ token_word other
    → one ≡ other
unfolding head
same_token Leaf Leaf is are same = refl
same_token Leaf (Branch bit true) is are same = absurd (omega (arith, ap head same))
same_token Leaf (Branch bit false) is are same = absurd (omega (arith, ap head same))
same_token (Branch bit true) Leaf is are same = absurd (omega (arith, ap head same))
same_token (Branch bit false) Leaf is are same = absurd (omega (arith, ap head same))
same_token (Branch bit true) (Branch other false) is are same = absurd (omega (arith, ap head same))
same_token (Branch bit false) (Branch other true) is are same = absurd (omega (arith, ap head same))
same_token (Branch bit true) (Branch other true) is are same = ap (λ (n : ℕ). Branch n true)
    (decimal_injective bit other (omega (arith, is)) (omega (arith, are)) (ap (drop 1) same))
same_token (Branch bit false) (Branch other false) is are same = ap (λ (n : ℕ). Branch n false)
    (decimal_injective bit other (omega (arith, is)) (omega (arith, are)) (ap (drop 1) same))

-- so are codes
same_code : (one other : List Token) → AreTokens one → AreTokens other → code_words one ≡ code_words other
    → one ≡ other
same_code [] [] is are same = refl
same_code [] (token ∷ other) is are same = absurd (omega (arith, ap length same))
same_code (token ∷ one) [] is are same = absurd (omega (arith, ap length same))
same_code (token ∷ one) (first ∷ other) is are same =
    let parts = same_cut 32 (token_word token) (code_words one) (token_word first) (code_words other)
    (free_token token is.0 32 (omega arith)) (free_token first are.0 32 (omega arith))
    (begins_code one) (begins_code other) (ap (drop 1) same) in
    let tokens = same_token token first is.0 are.0 parts.0 in
    let rest = same_code one other is.1 are.1 parts.1 in
    λ i. tokens i ∷ rest i

-- so are claims
same_claim : (one other : Claim) → IsClaimOf one → IsClaimOf other → claim_words one ≡ claim_words other
    → one ≡ other
unfolding head
same_claim (Credited pair output) (Credited first last) is are same =
    let small = is.0 in let few = are.0 in let least = is.1 in let most = are.1 in
    let parts = same_cut 32 (decimal pair) (32 ∷ decimal output) (decimal first) (32 ∷ decimal last)
    (free_decimal 32 pair (omega arith) (omega (arith, small)))
    (free_decimal 32 first (omega arith) (omega (arith, few)))
    refl refl (ap (drop 2) same) in
    let pairs = decimal_injective pair first (omega (arith, small)) (omega (arith, few)) parts.0 in
    let outputs = decimal_injective output last (omega (arith, least)) (omega (arith, most))
    (ap (drop 1) parts.1) in
    λ i. Credited (pairs i) (outputs i)
same_claim Unexposable Unexposable is are same = refl
same_claim (Untestable one) (Untestable other) is are same =
    ap (λ (code : List Token). Untestable code) (same_code one other is are (ap (drop 1) same))
same_claim (Aborted one) (Aborted other) is are same =
    ap (λ (code : List Token). Aborted code) (same_code one other is are (ap (drop 1) same))
same_claim (Credited pair output) Unexposable is are same = absurd (omega (arith, ap head same))
same_claim (Credited pair output) (Untestable code) is are same = absurd (omega (arith, ap head same))
same_claim (Credited pair output) (Aborted code) is are same = absurd (omega (arith, ap head same))
same_claim Unexposable (Credited pair output) is are same = absurd (omega (arith, ap head same))
same_claim Unexposable (Untestable code) is are same = absurd (omega (arith, ap head same))
same_claim Unexposable (Aborted code) is are same = absurd (omega (arith, ap head same))
same_claim (Untestable code) (Credited pair output) is are same = absurd (omega (arith, ap head same))
same_claim (Untestable code) Unexposable is are same = absurd (omega (arith, ap head same))
same_claim (Untestable code) (Aborted other) is are same = absurd (omega (arith, ap head same))
same_claim (Aborted code) (Credited pair output) is are same = absurd (omega (arith, ap head same))
same_claim (Aborted code) Unexposable is are same = absurd (omega (arith, ap head same))
same_claim (Aborted code) (Untestable other) is are same = absurd (omega (arith, ap head same))

-- nothing is no line
none_left : HasNoClaim []
none_left claim rest is begins = omega (
  arith,
  ap length begins,
  length-append (claim_line claim) rest,
  length-append (claim_words claim) (10 ∷ []),
)

-- lines of claims that are followed by no further one are one
same_lines : (one other : List Claim) (rest after : List ℕ) → AreClaims one → AreClaims other
    → HasNoClaim rest → HasNoClaim after
    → claim_lines one ++ rest ≡ claim_lines other ++ after → (one ≡ other) × (rest ≡ after)
same_lines [] [] rest after is are none last same = (refl, same)
same_lines [] (claim ∷ other) rest after is are none last same =
    absurd (none claim (claim_lines other ++ after) are.0
    (same ∙ append_assoc (claim_line claim) (claim_lines other) after))
same_lines (claim ∷ one) [] rest after is are none last same =
    absurd (last claim (claim_lines one ++ rest) is.0
    (sym same ∙ append_assoc (claim_line claim) (claim_lines one) rest))
same_lines (claim ∷ one) (first ∷ other) rest after is are none last same =
    let left = append_assoc (claim_line claim) (claim_lines one) rest
    ∙ append_assoc (claim_words claim) (10 ∷ []) (claim_lines one ++ rest) in
    let right = append_assoc (claim_line first) (claim_lines other) after
    ∙ append_assoc (claim_words first) (10 ∷ []) (claim_lines other ++ after) in
    let parts = same_cut 10 (claim_words claim) (10 ∷ (claim_lines one ++ rest)) (claim_words first)
    (10 ∷ (claim_lines other ++ after))
    (free_claim claim is.0) (free_claim first are.0) refl refl (sym left ∙ same ∙ right) in
    let claims = same_claim claim first is.0 are.0 parts.0 in
    let later = same_lines one other rest after is.1 are.1 none last (ap (drop 1) parts.1) in
    (λ i. claims i ∷ later.0 i, later.1)

-- so are first lines
same_head : (one other : ℕ) (rest after : List ℕ) → one ≤ MOST_BUDGET → other ≤ MOST_BUDGET
    → head_line one ++ rest ≡ head_line other ++ after → (one ≡ other) × (rest ≡ after)
same_head one other rest after few small same =
    let parts = same_cut 10 (head_words one) (10 ∷ rest) (head_words other) (10 ∷ after) (free_head one few)
    (free_head other small)
    refl refl (sym (append_assoc (head_words one) (10 ∷ []) rest) ∙ same ∙ append_assoc (head_words other)
    (10 ∷ []) after) in (
      decimal_injective one other (omega (arith, few)) (omega (arith, small))
          (append_cancel_left (codes "cellaware certificate 1 budget ") (decimal one)
          (decimal other) parts.0),
      ap (drop 1) parts.1,
    )

same_certificate : (one other : Certificate) → one.budget ≡ other.budget → one.claims ≡ other.claims
    → one ≡ other
same_certificate one other budgets claims =
    ap (λ (n : ℕ). let made : Certificate = record { budget = n; claims = one.claims } in made) budgets
    ∙ ap (λ (l : List Claim). let made : Certificate = record { budget = other.budget; claims = l } in made) claims

pub text_is_read_lem : TextIsRead
text_is_read_lem certificate (Ok other) writable reads =
    let heads = same_head other.budget certificate.budget (claim_lines other.claims)
    (claim_lines certificate.claims)
    reads.writable.budget writable.budget (sym reads.is) in
    let lines = same_lines other.claims certificate.claims [] [] reads.writable.claims writable.claims none_left none_left
    (append-nil (claim_lines other.claims) ∙ heads.1 ∙ sym
    (append-nil (claim_lines certificate.claims))) in
    inl (ap Ok (same_certificate other certificate heads.0 lines.0))
text_is_read_lem certificate (Err (fault.At line)) writable (inl first) =
    absurd (first.1 certificate.budget (claim_lines certificate.claims) writable.budget refl)
text_is_read_lem certificate (Err (fault.At line)) writable (inr faulty) =
    let heads = same_head certificate.budget faulty.budget (claim_lines certificate.claims) faulty.after
    writable.budget faulty.few faulty.begins in
    let lines = same_lines certificate.claims faulty.faulty.claims [] faulty.faulty.rest writable.claims faulty.faulty.are
    none_left faulty.faulty.no_claim
    (append-nil (claim_lines certificate.claims) ∙ heads.1 ∙ faulty.faulty.begins) in
    absurd (omega (arith, ap length lines.1, faulty.faulty.some))
text_is_read_lem certificate (Err fault.NoMemory) writable reads = inr refl

pub faulty_line_is_one_lem : FaultyLineIsOne
faulty_line_is_one_lem text one other (inl first) (inl last) = first.0 ∙ sym last.0
faulty_line_is_one_lem text one other (inl first) (inr last) = absurd
    (first.1 last.budget last.after last.few last.begins)
faulty_line_is_one_lem text one other (inr first) (inl last) = absurd
    (last.1 first.budget first.after first.few first.begins)
faulty_line_is_one_lem text one other (inr first) (inr last) =
    let heads = same_head first.budget last.budget first.after last.after first.few last.few
    (sym first.begins ∙ last.begins) in
    let lines = same_lines first.faulty.claims last.faulty.claims first.faulty.rest last.faulty.rest first.faulty.are
    last.faulty.are first.faulty.no_claim last.faulty.no_claim
    (sym first.faulty.begins ∙ heads.1 ∙ last.faulty.begins) in
    first.faulty.at ∙ ap (λ n. n + 2) (ap length lines.0) ∙ sym last.faulty.at
