-- What a form reads whole, and where it is stuck.
use Rattle.std.proofs.Common.{◌≡◌, ℕ, ◌+◌, ◌<◌, true, List, [], ◌∷◌, ◌++◌, length, Result, Ok, Err, refl, sym}
use Rattle.std.proofs.Common.{ap, ◌∙◌, arith, append_assoc, length-append}
use Rattle.std.proofs.lemmas.List.{append-nil}
use Rattle.ca_stil_form.specs.Form.{Token, Outcome, Got, Stuck}
use Rattle.ca_stil_form.specs.Grammar.{Form}
use Rattle.ca_stil_form.specs.code.Grammar.{IsExactForm}
use Rattle.ca_stil_form.specs.Tokens.{tokens_from, tokens_of}
use Rattle.ca_stil_form.proofs.SpelledLemmas.{IsSpelled}
use Rattle.ca_stil_form.specs.Reading.{at_end, whole, IsWritten, Begins, IsFirstFaulty}

-- what is written is read
pub written_read : {Value : Type 0} (form : Form Value) → IsExactForm form → (tokens : List Token) (value : Value)
    → IsWritten form value tokens → whole form tokens ≡ Ok value
written_read form exact tokens value is =
    ap (λ (given : List Token). at_end (form.read given)) (is.same ∙ sym (append-nil (form.written value)))
    ∙ ap at_end (exact.exact.back value [] is.allowed)

-- what is read is written
pub read_written : {Value : Type 0} (form : Form Value) → IsExactForm form → (tokens : List Token) (value : Value)
    → whole form tokens ≡ Ok value → IsWritten form value tokens
read_written {Value} form exact tokens value is = by (form.read tokens) refl is
  where
    by : (given : Outcome Value) → form.read tokens ≡ given → at_end given ≡ Ok value → IsWritten form value tokens
    by (Got other []) read is =
        let same : other ≡ value = cc in
        let facts = exact.exact.found tokens value [] (read ∙ ap (λ (given : Value). Got given []) same) in
        record { allowed = facts.0; same = facts.1 ∙ append-nil (form.written value) }
    by (Got other (token ∷ rest)) read is = absurd cc
    by (Stuck rest) read is = absurd cc

-- a reading that is reported to be faulty is faulty, at its first faulty token
pub fault_found : {Value : Type 0} (form : Form Value) → IsExactForm form → (tokens : List Token) (left : ℕ)
    → whole form tokens ≡ Err left → IsFirstFaulty form tokens left
fault_found {Value} form exact tokens left is = by (form.read tokens) refl is
  where
    not_read : (value : Value) → whole form tokens ≡ Err left → IsWritten form value tokens → ⊥
    not_read value reported written = let read = written_read form exact tokens value written in absurd cc

    by : (given : Outcome Value) → form.read tokens ≡ given → at_end given ≡ Err left → IsFirstFaulty form tokens left
    by (Got value []) read is = absurd cc
    by (Got value (token ∷ rest)) read reported =
        let facts = exact.exact.found tokens value (token ∷ rest) read in
        record {
          seen = form.written value;
          rest = token ∷ rest;
          parted = facts.1;
          counted = cc;
          goes_on = record { value = value; more = []; written = record { allowed = facts.0; same = append-nil (form.written value) } };
          no_further = λ next after begins further.
              let joined = exact.exact.back value (next ∷ (further.more)) facts.0 in
              let other = exact.exact.back further.value [] further.written.allowed in
              let same : form.written further.value ++ [] ≡ form.written value ++ next ∷ further.more =
              append-nil (form.written further.value) ∙ sym further.written.same ∙ append_assoc (form.written value) (next ∷ []) further.more in
              let both : Got further.value [] ≡ Got value (next ∷ further.more) = sym other ∙ ap form.read same ∙ joined in
              absurd cc;
          no_end = λ other written. not_read other is written;
        }
    by (Stuck following) read reported =
        let place = exact.exact.stuck tokens following read in
        record {
          seen = place.seen;
          rest = following;
          parted = place.whole;
          counted = cc;
          goes_on = record { value = place.value; more = place.more; written = record { allowed = place.is_allowed; same = sym place.alive } };
          no_further = λ next after begins further.
              let stuck = place.fixed next after further.more begins in
              let other = exact.exact.back further.value [] further.written.allowed in
              let same : form.written further.value ++ [] ≡ place.seen ++ next ∷ further.more =
              append-nil (form.written further.value) ∙ sym further.written.same ∙ append_assoc place.seen (next ∷ []) further.more in
              let both : Got further.value [] ≡ Stuck (next ∷ further.more) = sym other ∙ ap form.read same ∙ stuck in
              absurd cc;
          no_end = λ other written. not_read other is written;
        }

-- of two lists that make the same whole with others, one begins as the other does, and goes on
parted : (one other : List Token) (following beyond : List Token) → one ++ following ≡ other ++ beyond → length one < length other
    → (next : Token) × (more : List Token) × (after : List Token) × (following ≡ next ∷ after) × (other ≡ one ++ next ∷ more)
parted [] [] following beyond same below = absurd (omega (arith, below))
parted [] (token ∷ other) following beyond same below = (token, other, other ++ beyond, same, refl)
parted (token ∷ one) [] following beyond same below = absurd (omega (arith, below))
parted (token ∷ one) (first ∷ other) following beyond same below =
    let heads : token ≡ first = cc in
    let tails : one ++ following ≡ other ++ beyond = cc in
    let found = parted one other following beyond tails (omega (arith, below)) in
    (found.0, found.1, found.2, found.3, ap (λ (given : List Token). first ∷ given) found.4 ∙ ap (λ (given : Token). given ∷ one ++ found.0 ∷ found.1) (sym heads))

-- where a first faulty token comes earlier, the later one isn't the first
not_before : {Value : Type 0} (form : Form Value) (tokens : List Token) (left other : ℕ) → IsFirstFaulty form tokens left → IsFirstFaulty form tokens other
    → length tokens + left < length tokens + other → ⊥
not_before {Value} form tokens left other late early below =
    let all : early.seen ++ early.rest ≡ late.seen ++ late.rest = sym early.parted ∙ late.parted in
    let counts : length early.seen < length late.seen =
    omega (arith, ap length all, length-append early.seen early.rest, length-append late.seen late.rest, early.counted, late.counted, below) in
    let found = parted early.seen late.seen early.rest late.rest all counts in
    let further : Begins form (early.seen ++ found.0 ∷ []) = record {
      value = late.goes_on.value;
      more = found.1 ++ late.goes_on.more;
      written = record {
        allowed = late.goes_on.written.allowed;
        same = append_assoc early.seen (found.0 ∷ []) (found.1 ++ late.goes_on.more)
            ∙ sym (append_assoc early.seen (found.0 ∷ found.1) late.goes_on.more)
            ∙ ap (λ (given : List Token). given ++ late.goes_on.more) (sym found.4) ∙ late.goes_on.written.same;
      };
    } in
    early.no_further found.0 found.2 found.3 further

-- a number that is neither less nor more
equal : (total one other : ℕ) → (total + one < total + other → ⊥) → (total + other < total + one → ⊥) → one ≡ other
equal total one other not_less not_more = grind arith

-- and a first faulty token is reported
pub fault_reported : {Value : Type 0} (form : Form Value) → IsExactForm form → (tokens : List Token) (left : ℕ)
    → IsFirstFaulty form tokens left → whole form tokens ≡ Err left
fault_reported {Value} form exact tokens left first = by (whole form tokens) refl
  where
    by : (given : Result Value ℕ) → whole form tokens ≡ given → whole form tokens ≡ Err left
    by (Ok value) is = absurd (first.no_end value (read_written form exact tokens value is))
    by (Err other) is =
        let found = fault_found form exact tokens other is in
        is ∙ ap (λ (given : ℕ). Err given) (equal (length tokens) other left (not_before form tokens other left found first) (not_before form tokens left other first found))

-- the text of a value has the tokens that are written
pub text_tokens : {Value : Type 0} (form : Form Value) → IsSpelled form → (value : Value) → form.allowed value ≡ true
    → tokens_of (form.text value) ≡ form.written value
unfolding tokens_from
text_tokens form spelled value is =
    ap tokens_of (sym (append-nil (form.text value))) ∙ spelled.spells value is [] ∙ append-nil (form.written value)

-- and it is read back
pub text_read : {Value : Type 0} (form : Form Value) → IsExactForm form → IsSpelled form → (value : Value) → form.allowed value ≡ true
    → whole form (tokens_of (form.text value)) ≡ Ok value
text_read form exact spelled value is = written_read form exact (tokens_of (form.text value)) value (record { allowed = is; same = text_tokens form spelled value is })
