-- A reader of a form that may be left out, and of another one after it, is exact where both readers are.
use Rattle.std.proofs.Common.{◌≡◌, Bool, true, false, ◌&&◌, List, [], ◌∷◌, ◌++◌, Option, Some, None, refl}
use Rattle.std.proofs.Common.{sym, ap, ◌∙◌, append_assoc}
use Rattle.std.specs.Str.{bytes_eq}
use Rattle.ca_stil_form.specs.Form.{Token, Outcome, Got, Stuck, with_first, read_after}
use Rattle.ca_stil_form.specs.code.Form.{IsStuck, IsExact}
use Rattle.ca_stil_form.specs.Form.{mapped, as_some, read_maybe, written_maybe, allowed_maybe}
use Rattle.ca_stil_form.specs.code.Form.{Begins}
use Rattle.ca_stil_form.specs.code.Form.{BeginsOther}
use Rattle.ca_stil_form.proofs.FormLemmas.{left_true, right_true}
use Rattle.ca_stil_form.proofs.ItemsLemmas.{begins_other_more}

-- some form that begins with the key, or none, and the other one
abbrev some_read : {First Second : Type 0} → (List Token → Outcome First) → (Option First → List Token → Outcome Second) → List Token → Outcome (Option First × Second)
some_read read_first read_second tokens = mapped as_some (read_after (read_first tokens) (λ first. read_second (Some first)))

begins_more : (key : Token) (tokens more : List Token) → Begins key tokens → Begins key (tokens ++ more)
begins_more key [] more begins = absurd begins
begins_more key (token ∷ tokens) more begins = begins

begins_seen : (key token : Token) (tokens seen : List Token) (next : Token) (after other : List Token)
    → token ∷ tokens ≡ seen ++ next ∷ after → bytes_eq key token ≡ true → Begins key (seen ++ next ∷ other)
begins_seen key token tokens [] next after other whole is =
    let same : token ≡ next = cc in
    ap (bytes_eq key) (sym same) ∙ is
begins_seen key token tokens (one ∷ seen) next after other whole is =
    let same : token ≡ one = cc in
    ap (bytes_eq key) (sym same) ∙ is

maybe_there : {First Second : Type 0} (possible : Bool) (key : Token) (read_first : List Token → Outcome First) (read_second : Option First → List Token → Outcome Second)
    (tokens : List Token) → possible ≡ true → Begins key tokens → read_maybe possible key read_first read_second tokens ≡ some_read read_first read_second tokens
maybe_there possible key read_first read_second [] is begins = absurd begins
maybe_there {First} {Second} possible key read_first read_second (token ∷ tokens) is begins =
    λ j. elim (is j && begins j) as (λ _. Outcome (Option First × Second)) [
      | true ↦ some_read read_first read_second (token ∷ tokens)
      | false ↦ with_first None (read_second None (token ∷ tokens))
    ]

maybe_absent : {First Second : Type 0} (possible : Bool) (key : Token) (read_first : List Token → Outcome First) (read_second : Option First → List Token → Outcome Second)
    (token : Token) (tokens : List Token) → (possible && bytes_eq key token) ≡ false
    → read_maybe possible key read_first read_second (token ∷ tokens) ≡ with_first None (read_second None (token ∷ tokens))
maybe_absent {First} {Second} possible key read_first read_second token tokens is =
    λ j. elim (is j) as (λ _. Outcome (Option First × Second)) [
      | true ↦ some_read read_first read_second (token ∷ tokens)
      | false ↦ with_first None (read_second None (token ∷ tokens))
    ]

not_both : (possible : Bool) (key token : Token) → bytes_eq key token ≡ false → (possible && bytes_eq key token) ≡ false
not_both true key token is = is
not_both false key token is = refl

maybe_other : {First Second : Type 0} (possible : Bool) (key : Token) (read_first : List Token → Outcome First) (read_second : Option First → List Token → Outcome Second)
    (tokens : List Token) → BeginsOther key tokens → read_maybe possible key read_first read_second tokens ≡ with_first None (read_second None tokens)
maybe_other possible key read_first read_second [] begins = absurd begins
maybe_other possible key read_first read_second (token ∷ tokens) begins =
    maybe_absent possible key read_first read_second token tokens (not_both possible key token begins)

pub maybe_exact : {First Second : Type 0} (possible : Bool) (key : Token)
    (allowed_first : First → Bool) (written_first : First → List Token) (read_first : List Token → Outcome First)
    (allowed_second : Option First → Second → Bool) (written_second : Option First → Second → List Token) (read_second : Option First → List Token → Outcome Second)
    → (possible ≡ true → IsExact allowed_first written_first read_first)
    → ((first : First) → allowed_first first ≡ true → Begins key (written_first first))
    → IsExact (allowed_second None) (written_second None) (read_second None)
    → ((first : First) → possible ≡ true → allowed_first first ≡ true → IsExact (allowed_second (Some first)) (written_second (Some first)) (read_second (Some first)))
    → ((second : Second) → allowed_second None second ≡ true → BeginsOther key (written_second None second))
    → IsExact (λ (both : Option First × Second). allowed_maybe possible allowed_first allowed_second both.0 both.1)
    (λ (both : Option First × Second). written_maybe written_first written_second both.0 both.1) (read_maybe possible key read_first read_second)
maybe_exact {First} {Second} possible key allowed_first written_first read_first allowed_second written_second read_second first opens absent present apart = record {
  some = (None, absent.some);
  some_allowed = absent.some_allowed;
  back = λ both rest is. back_maybe both.0 both.1 rest is;
  found = λ tokens both rest got. found_maybe tokens both rest got;
  stuck = stuck_maybe;
}
  where
    back_maybe : (one : Option First) (two : Second) (rest : List Token) → allowed_maybe possible allowed_first allowed_second one two ≡ true
        → read_maybe possible key read_first read_second (written_maybe written_first written_second one two ++ rest) ≡ Got (one, two) rest
    back_maybe None two rest is =
        maybe_other possible key read_first read_second (written_second None two ++ rest) (begins_other_more key (written_second None two) rest (apart two is))
        ∙ ap (with_first None) (absent.back two rest is)
    back_maybe (Some one) two rest is =
        let can = left_true possible (allowed_first one && allowed_second (Some one) two) is in
        let both = right_true possible (allowed_first one && allowed_second (Some one) two) is in
        let one_allowed = left_true (allowed_first one) (allowed_second (Some one) two) both in
        let two_allowed = right_true (allowed_first one) (allowed_second (Some one) two) both in
        ap (read_maybe possible key read_first read_second) (append_assoc (written_first one) (written_second (Some one) two) rest)
        ∙ maybe_there possible key read_first read_second (written_first one ++ (written_second (Some one) two ++ rest)) can
        (begins_more key (written_first one) (written_second (Some one) two ++ rest) (opens one one_allowed))
        ∙ ap (λ (given : Outcome First). mapped as_some (read_after given (λ (value : First). read_second (Some value))))
        ((first can).back one (written_second (Some one) two ++ rest) one_allowed)
        ∙ ap (λ (given : Outcome Second). mapped as_some (with_first one given)) ((present one can one_allowed).back two rest two_allowed)

    found_absent : (tokens : List Token) (both : Option First × Second) (rest : List Token) (given : Outcome Second) → read_second None tokens ≡ given
        → with_first {First = Option First} None given ≡ Got both rest
        → (allowed_maybe possible allowed_first allowed_second both.0 both.1 ≡ true) × (tokens ≡ written_maybe written_first written_second both.0 both.1 ++ rest)
    found_absent tokens both rest (Got two after) is got =
        let same_both : (None, two) ≡ both = cc in
        let same_rest : after ≡ rest = cc in
        let facts = absent.found tokens two after is in (
          ap (λ (pair : Option First × Second). allowed_maybe possible allowed_first allowed_second pair.0 pair.1) (sym same_both) ∙ facts.0,
          facts.1 ∙ ap (λ (pair : Option First × Second). written_maybe written_first written_second pair.0 pair.1 ++ after) same_both
              ∙ ap (λ (given : List Token). written_maybe written_first written_second both.0 both.1 ++ given) same_rest,
        )
    found_absent tokens both rest (Stuck after) is got = absurd cc

    found_second : (tokens : List Token) (both : Option First × Second) (rest : List Token) (one : First) (following : List Token) (given : Outcome Second)
        → possible ≡ true → read_first tokens ≡ Got one following → read_second (Some one) following ≡ given
        → mapped as_some (with_first one given) ≡ Got both rest
        → (allowed_maybe possible allowed_first allowed_second both.0 both.1 ≡ true) × (tokens ≡ written_maybe written_first written_second both.0 both.1 ++ rest)
    found_second tokens both rest one following (Got two after) can is is_second got =
        let same_both : (Some one, two) ≡ both = cc in
        let same_rest : after ≡ rest = cc in
        let facts = (first can).found tokens one following is in
        let more = (present one can facts.0).found following two after is_second in (
          ap (λ (pair : Option First × Second). allowed_maybe possible allowed_first allowed_second pair.0 pair.1) (sym same_both) ∙ (λ j. can j && (facts.0 j && more.0 j)),
          facts.1 ∙ ap (λ (given : List Token). written_first one ++ given) more.1 ∙ sym (append_assoc (written_first one) (written_second (Some one) two) after)
              ∙ ap (λ (pair : Option First × Second). written_maybe written_first written_second pair.0 pair.1 ++ after) same_both
              ∙ ap (λ (given : List Token). written_maybe written_first written_second both.0 both.1 ++ given) same_rest,
        )
    found_second tokens both rest one following (Stuck after) can is is_second got = absurd cc

    found_first : (tokens : List Token) (both : Option First × Second) (rest : List Token) (given : Outcome First) → possible ≡ true → read_first tokens ≡ given
        → mapped as_some (read_after given (λ (value : First). read_second (Some value))) ≡ Got both rest
        → (allowed_maybe possible allowed_first allowed_second both.0 both.1 ≡ true) × (tokens ≡ written_maybe written_first written_second both.0 both.1 ++ rest)
    found_first tokens both rest (Got one following) can is got = found_second tokens both rest one following (read_second (Some one) following) can is refl got
    found_first tokens both rest (Stuck following) can is got = absurd cc

    found_token : (token : Token) (tokens : List Token) (both : Option First × Second) (rest : List Token) (there : Bool) → (possible && bytes_eq key token) ≡ there
        → elim there as (λ _. Outcome (Option First × Second)) [
          | true ↦ some_read read_first read_second (token ∷ tokens)
          | false ↦ with_first None (read_second None (token ∷ tokens))
        ] ≡ Got both rest
        → (allowed_maybe possible allowed_first allowed_second both.0 both.1 ≡ true) × (token ∷ tokens ≡ written_maybe written_first written_second both.0 both.1 ++ rest)
    found_token token tokens both rest true is got =
        found_first (token ∷ tokens) both rest (read_first (token ∷ tokens)) (left_true possible (bytes_eq key token) is) refl got
    found_token token tokens both rest false is got = found_absent (token ∷ tokens) both rest (read_second None (token ∷ tokens)) refl got

    found_maybe : (tokens : List Token) (both : Option First × Second) (rest : List Token) → read_maybe possible key read_first read_second tokens ≡ Got both rest
        → (allowed_maybe possible allowed_first allowed_second both.0 both.1 ≡ true) × (tokens ≡ written_maybe written_first written_second both.0 both.1 ++ rest)
    found_maybe [] both rest got = found_absent [] both rest (read_second None []) refl got
    found_maybe (token ∷ tokens) both rest got = found_token token tokens both rest (possible && bytes_eq key token) refl got

    stuck_absent : (tokens rest : List Token) (given : Outcome Second) → read_second None tokens ≡ given
        → ((seen : List Token) (next : Token) (after other : List Token) → tokens ≡ seen ++ next ∷ after
        → read_maybe possible key read_first read_second (seen ++ next ∷ other) ≡ with_first None (read_second None (seen ++ next ∷ other)))
        → with_first {First = Option First} None given ≡ Stuck rest
        → IsStuck (λ (both : Option First × Second). allowed_maybe possible allowed_first allowed_second both.0 both.1)
        (λ (both : Option First × Second). written_maybe written_first written_second both.0 both.1) (read_maybe possible key read_first read_second) tokens rest
    stuck_absent tokens rest (Got two after) is stays stuck = absurd cc
    stuck_absent tokens rest (Stuck after) is stays stuck =
        let same : after ≡ rest = cc in
        let place = absent.stuck tokens rest (is ∙ ap Stuck same) in
        record {
          seen = place.seen;
          whole = place.whole;
          value = (None, place.value);
          more = place.more;
          is_allowed = place.is_allowed;
          alive = place.alive;
          fixed = λ next past other begins.
              stays place.seen next past other (place.whole ∙ ap (λ (given : List Token). place.seen ++ given) begins)
              ∙ ap (with_first None) (place.fixed next past other begins);
        }

    stuck_second : (token : Token) (tokens rest : List Token) (one : First) (following : List Token) (given : Outcome Second)
        → possible ≡ true → read_first (token ∷ tokens) ≡ Got one following → read_second (Some one) following ≡ given
        → mapped as_some (with_first one given) ≡ Stuck rest
        → IsStuck (λ (both : Option First × Second). allowed_maybe possible allowed_first allowed_second both.0 both.1)
        (λ (both : Option First × Second). written_maybe written_first written_second both.0 both.1) (read_maybe possible key read_first read_second) (token ∷ tokens) rest
    stuck_second token tokens rest one following (Got two after) can is is_second stuck = absurd cc
    stuck_second token tokens rest one following (Stuck after) can is is_second stuck =
        let same : after ≡ rest = cc in
        let facts = (first can).found (token ∷ tokens) one following is in
        let place = (present one can facts.0).stuck following rest (is_second ∙ ap Stuck same) in
        record {
          seen = written_first one ++ place.seen;
          whole = facts.1 ∙ ap (λ (given : List Token). written_first one ++ given) place.whole ∙ sym (append_assoc (written_first one) place.seen rest);
          value = (Some one, place.value);
          more = place.more;
          is_allowed = λ j. can j && (facts.0 j && place.is_allowed j);
          alive = ap (λ (given : List Token). written_first one ++ given) place.alive ∙ sym (append_assoc (written_first one) place.seen place.more);
          fixed = λ next past other begins.
              ap (read_maybe possible key read_first read_second) (append_assoc (written_first one) place.seen (next ∷ other))
              ∙ maybe_there possible key read_first read_second (written_first one ++ (place.seen ++ next ∷ other)) can
              (begins_more key (written_first one) (place.seen ++ next ∷ other) (opens one facts.0))
              ∙ ap (λ (given : Outcome First). mapped as_some (read_after given (λ (value : First). read_second (Some value))))
              ((first can).back one (place.seen ++ next ∷ other) facts.0)
              ∙ ap (λ (given : Outcome Second). mapped as_some (with_first one given)) (place.fixed next past other begins);
        }

    stuck_first : (token : Token) (tokens rest : List Token) (given : Outcome First) → (possible && bytes_eq key token) ≡ true
        → read_first (token ∷ tokens) ≡ given
        → mapped as_some (read_after given (λ (value : First). read_second (Some value))) ≡ Stuck rest
        → IsStuck (λ (both : Option First × Second). allowed_maybe possible allowed_first allowed_second both.0 both.1)
        (λ (both : Option First × Second). written_maybe written_first written_second both.0 both.1) (read_maybe possible key read_first read_second) (token ∷ tokens) rest
    stuck_first token tokens rest (Got one following) there is stuck =
        stuck_second token tokens rest one following (read_second (Some one) following) (left_true possible (bytes_eq key token) there) is refl stuck
    stuck_first token tokens rest (Stuck following) there is stuck =
        let same : following ≡ rest = cc in
        let can = left_true possible (bytes_eq key token) there in
        let place = (first can).stuck (token ∷ tokens) rest (is ∙ ap Stuck same) in
        let other = present place.value can place.is_allowed in
        record {
          seen = place.seen;
          whole = place.whole;
          value = (Some place.value, other.some);
          more = place.more ++ written_second (Some place.value) other.some;
          is_allowed = λ j. can j && (place.is_allowed j && other.some_allowed j);
          alive = ap (λ (given : List Token). given ++ written_second (Some place.value) other.some) place.alive
              ∙ append_assoc place.seen place.more (written_second (Some place.value) other.some);
          fixed = λ next past other begins.
              maybe_there possible key read_first read_second (place.seen ++ next ∷ other) can
              (begins_seen key token tokens place.seen next past other (place.whole ∙ ap (λ (given : List Token). place.seen ++ given) begins) (right_true possible (bytes_eq key token) there))
              ∙ ap (λ (given : Outcome First). mapped as_some (read_after given (λ (value : First). read_second (Some value)))) (place.fixed next past other begins);
        }

    -- what was seen before another token is not the key either
    stays_absent : (token : Token) (tokens : List Token) → (possible && bytes_eq key token) ≡ false
        → (seen : List Token) (next : Token) (after other : List Token) → token ∷ tokens ≡ seen ++ next ∷ after
        → read_maybe possible key read_first read_second (seen ++ next ∷ other) ≡ with_first None (read_second None (seen ++ next ∷ other))
    stays_absent token tokens is [] next after other whole =
        let same : token ≡ next = cc in
        maybe_absent possible key read_first read_second next other (ap (λ (given : Token). possible && bytes_eq key given) (sym same) ∙ is)
    stays_absent token tokens is (one ∷ seen) next after other whole =
        let same : token ≡ one = cc in
        maybe_absent possible key read_first read_second one (seen ++ next ∷ other) (ap (λ (given : Token). possible && bytes_eq key given) (sym same) ∙ is)

    nothing_seen : (seen : List Token) (next : Token) (after other : List Token) → [] ≡ seen ++ next ∷ after
        → read_maybe possible key read_first read_second (seen ++ next ∷ other) ≡ with_first None (read_second None (seen ++ next ∷ other))
    nothing_seen [] next after other whole = absurd cc
    nothing_seen (one ∷ seen) next after other whole = absurd cc

    stuck_token : (token : Token) (tokens rest : List Token) (there : Bool) → (possible && bytes_eq key token) ≡ there
        → elim there as (λ _. Outcome (Option First × Second)) [
          | true ↦ some_read read_first read_second (token ∷ tokens)
          | false ↦ with_first None (read_second None (token ∷ tokens))
        ] ≡ Stuck rest
        → IsStuck (λ (both : Option First × Second). allowed_maybe possible allowed_first allowed_second both.0 both.1)
        (λ (both : Option First × Second). written_maybe written_first written_second both.0 both.1) (read_maybe possible key read_first read_second) (token ∷ tokens) rest
    stuck_token token tokens rest true is stuck = stuck_first token tokens rest (read_first (token ∷ tokens)) is refl stuck
    stuck_token token tokens rest false is stuck =
        stuck_absent (token ∷ tokens) rest (read_second None (token ∷ tokens)) refl (stays_absent token tokens is) stuck

    stuck_maybe : (tokens rest : List Token) → read_maybe possible key read_first read_second tokens ≡ Stuck rest
        → IsStuck (λ (both : Option First × Second). allowed_maybe possible allowed_first allowed_second both.0 both.1)
        (λ (both : Option First × Second). written_maybe written_first written_second both.0 both.1) (read_maybe possible key read_first read_second) tokens rest
    stuck_maybe [] rest stuck = stuck_absent [] rest (read_second None []) refl nothing_seen stuck
    stuck_maybe (token ∷ tokens) rest stuck = stuck_token token tokens rest (possible && bytes_eq key token) refl stuck
