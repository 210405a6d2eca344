-- Readers that are exact for one token, for fixed tokens, for one form after another, and for items up to a
-- closing token.
use Rattle.std.proofs.Common.{◌≡◌, Bool, true, false, ◌&&◌, List, [], ◌∷◌, ◌++◌, Option, Some, None, refl}
use Rattle.std.proofs.Common.{sym, ap, ◌∙◌, append_assoc}
use Rattle.std.specs.Str.{bytes_eq}
use Rattle.std.specs.Prelude.{⊤}
use Rattle.std.proofs.lemmas.Slice.Eq.{bytes_eq-Decides}
use Rattle.ca_stil_form.specs.Form.{Token, Outcome, Got, Stuck, read_one, read_fixed}
use Rattle.ca_stil_form.specs.code.Form.{IsStuck, IsExact}
use Rattle.ca_stil_form.specs.Form.{with_first, read_after, read_then, mapped, read_each, written_each}
use Rattle.ca_stil_form.specs.Form.{all_each}

pub left_true : (left right : Bool) → (left && right) ≡ true → left ≡ true
left_true true right is = refl
left_true false right is = is

pub right_true : (left right : Bool) → (left && right) ≡ true → right ≡ true
right_true true right is = is
right_true false right is = absurd cc

-- a token that stands for a value
pub one_exact : {Value : Type 0} (value_of : Token → Option Value) (spelled : Value → Token) (allowed : Value → Bool) (some : Value)
    → allowed some ≡ true
    → ((value : Value) → allowed value ≡ true → value_of (spelled value) ≡ Some value)
    → ((token : Token) (value : Value) → value_of token ≡ Some value → (allowed value ≡ true) × (token ≡ spelled value))
    → IsExact allowed (λ value. spelled value ∷ []) (read_one value_of)
one_exact {Value} value_of spelled allowed some some_allowed back found = record {
  some = some;
  some_allowed = some_allowed;
  back = λ value rest is. ap (λ (given : Option Value). elim given as (λ _. Outcome Value) [ None ↦ Stuck (spelled value ∷ rest) | Some one ↦ Got one rest ]) (back value is);
  found = found_one;
  stuck = stuck_one;
}
  where
    by_value : (token : Token) (tokens : List Token) (value : Value) (rest : List Token) (given : Option Value) → value_of token ≡ given
        → elim given as (λ _. Outcome Value) [ None ↦ Stuck (token ∷ tokens) | Some one ↦ Got one tokens ] ≡ Got value rest
        → (allowed value ≡ true) × (token ∷ tokens ≡ spelled value ∷ rest)
    by_value token tokens value rest None is got = absurd cc
    by_value token tokens value rest (Some one) is got =
        let same : one ≡ value = cc in
        let both = found token value (is ∙ ap Some same) in
        (both.0, cc)

    found_one : (tokens : List Token) (value : Value) (rest : List Token) → read_one value_of tokens ≡ Got value rest
        → (allowed value ≡ true) × (tokens ≡ (spelled value ∷ []) ++ rest)
    found_one [] value rest got = absurd cc
    found_one (token ∷ tokens) value rest got = by_value token tokens value rest (value_of token) refl got

    at_token : (token : Token) (tokens rest : List Token) (given : Option Value) → value_of token ≡ given
        → elim given as (λ _. Outcome Value) [ None ↦ Stuck (token ∷ tokens) | Some one ↦ Got one tokens ] ≡ Stuck rest
        → IsStuck allowed (λ value. spelled value ∷ []) (read_one value_of) (token ∷ tokens) rest
    at_token token tokens rest None is stuck = record {
      seen = [];
      whole = cc;
      value = some;
      more = spelled some ∷ [];
      is_allowed = some_allowed;
      alive = refl;
      fixed = λ next after other begins.
          let same : token ≡ next = cc in
          ap (λ (given : Option Value). elim given as (λ _. Outcome Value) [ None ↦ Stuck (next ∷ other) | Some one ↦ Got one other ]) (ap value_of (sym same) ∙ is);
    }
    at_token token tokens rest (Some one) is stuck = absurd cc

    stuck_one : (tokens rest : List Token) → read_one value_of tokens ≡ Stuck rest
        → IsStuck allowed (λ value. spelled value ∷ []) (read_one value_of) tokens rest
    stuck_one [] rest stuck = record {
      seen = [];
      whole = cc;
      value = some;
      more = spelled some ∷ [];
      is_allowed = some_allowed;
      alive = refl;
      fixed = λ next after other begins. absurd cc;
    }
    stuck_one (token ∷ tokens) rest stuck = at_token token tokens rest (value_of token) refl stuck

-- one form, and then another
pub then_exact : {First Second : Type 0} (allowed_first : First → Bool) (written_first : First → List Token) (read_first : List Token → Outcome First)
    (allowed_second : First → Second → Bool) (written_second : First → Second → List Token) (read_second : First → List Token → Outcome Second)
    → IsExact allowed_first written_first read_first
    → ((first : First) → allowed_first first ≡ true → IsExact (allowed_second first) (written_second first) (read_second first))
    → IsExact (λ (both : First × Second). allowed_first both.0 && allowed_second both.0 both.1)
    (λ (both : First × Second). written_first both.0 ++ written_second both.0 both.1) (read_then read_first read_second)
then_exact {First} {Second} allowed_first written_first read_first allowed_second written_second read_second first second =
    let other = second first.some first.some_allowed in
    record {
      some = (first.some, other.some);
      some_allowed = λ j. first.some_allowed j && other.some_allowed j;
      back = back_both;
      found = λ tokens both rest got. found_both tokens both rest (read_first tokens) refl got;
      stuck = λ tokens rest is. stuck_both tokens rest (read_first tokens) refl is;
    }
  where
    back_both : (both : First × Second) (rest : List Token) → (allowed_first both.0 && allowed_second both.0 both.1) ≡ true
        → read_then read_first read_second ((written_first both.0 ++ written_second both.0 both.1) ++ rest) ≡ Got both rest
    back_both both rest is =
        let first_allowed = left_true (allowed_first both.0) (allowed_second both.0 both.1) is in
        let second_allowed = right_true (allowed_first both.0) (allowed_second both.0 both.1) is in
        ap (λ (given : List Token). read_then read_first read_second given) (append_assoc (written_first both.0) (written_second both.0 both.1) rest)
        ∙ ap (λ (given : Outcome First). read_after given read_second) (first.back both.0 (written_second both.0 both.1 ++ rest) first_allowed)
        ∙ ap (with_first both.0) ((second both.0 first_allowed).back both.1 rest second_allowed)

    found_second : (tokens : List Token) (both : First × Second) (rest : List Token) (one : First) (following : List Token) (given : Outcome Second)
        → read_first tokens ≡ Got one following → read_second one following ≡ given → with_first one given ≡ Got both rest
        → ((allowed_first both.0 && allowed_second both.0 both.1) ≡ true) × (tokens ≡ (written_first both.0 ++ written_second both.0 both.1) ++ rest)
    found_second tokens both rest one following (Got two after) is is_second got =
        let same_both : (one, two) ≡ both = cc in
        let same_rest : after ≡ rest = cc in
        let facts = first.found tokens one following is in
        let more = (second one facts.0).found following two after is_second in
        let both_facts : ((allowed_first one && allowed_second one two) ≡ true) × (tokens ≡ (written_first one ++ written_second one two) ++ after) = (
          (λ j. facts.0 j && more.0 j),
          facts.1 ∙ ap (λ (given : List Token). written_first one ++ given) more.1 ∙ sym (append_assoc (written_first one) (written_second one two) after),
        ) in (
          (ap (λ (pair : First × Second). allowed_first pair.0 && allowed_second pair.0 pair.1) (sym same_both)) ∙ both_facts.0,
          both_facts.1 ∙ ap (λ (pair : First × Second). (written_first pair.0 ++ written_second pair.0 pair.1) ++ after) same_both
              ∙ ap (λ (given : List Token). (written_first both.0 ++ written_second both.0 both.1) ++ given) same_rest,
        )
    found_second tokens both rest one following (Stuck after) is is_second got = absurd cc

    found_both : (tokens : List Token) (both : First × Second) (rest : List Token) (given : Outcome First) → read_first tokens ≡ given
        → read_after given read_second ≡ Got both rest
        → ((allowed_first both.0 && allowed_second both.0 both.1) ≡ true) × (tokens ≡ (written_first both.0 ++ written_second both.0 both.1) ++ rest)
    found_both tokens both rest (Got one following) is got = found_second tokens both rest one following (read_second one following) is refl got
    found_both tokens both rest (Stuck following) is got = absurd cc

    stuck_second : (tokens rest : List Token) (one : First) (following : List Token) (given : Outcome Second)
        → read_first tokens ≡ Got one following → read_second one following ≡ given → with_first one given ≡ Stuck rest
        → IsStuck (λ (both : First × Second). allowed_first both.0 && allowed_second both.0 both.1)
        (λ (both : First × Second). written_first both.0 ++ written_second both.0 both.1) (read_then read_first read_second) tokens rest
    stuck_second tokens rest one following (Got two after) is is_second stuck = absurd cc
    stuck_second tokens rest one following (Stuck after) is is_second stuck =
        let same : after ≡ rest = cc in
        let facts = first.found tokens one following is in
        let place = (second one facts.0).stuck following rest (is_second ∙ ap Stuck same) in
        record {
          seen = written_first one ++ place.seen;
          whole = facts.1 ∙ ap (λ (given : List Token). written_first one ++ given) place.whole ∙ sym (append_assoc (written_first one) place.seen rest);
          value = (one, place.value);
          more = place.more;
          is_allowed = λ j. facts.0 j && place.is_allowed j;
          alive = ap (λ (given : List Token). written_first one ++ given) place.alive ∙ sym (append_assoc (written_first one) place.seen place.more);
          fixed = λ next after other begins.
              ap (λ (given : List Token). read_then read_first read_second given) (append_assoc (written_first one) place.seen (next ∷ other))
              ∙ ap (λ (given : Outcome First). read_after given read_second) (first.back one (place.seen ++ next ∷ other) facts.0)
              ∙ ap (with_first one) (place.fixed next after other begins);
        }

    stuck_both : (tokens rest : List Token) (given : Outcome First) → read_first tokens ≡ given → read_after given read_second ≡ Stuck rest
        → IsStuck (λ (both : First × Second). allowed_first both.0 && allowed_second both.0 both.1)
        (λ (both : First × Second). written_first both.0 ++ written_second both.0 both.1) (read_then read_first read_second) tokens rest
    stuck_both tokens rest (Got one following) is stuck = stuck_second tokens rest one following (read_second one following) is refl stuck
    stuck_both tokens rest (Stuck following) is stuck =
        let same : following ≡ rest = cc in
        let place = first.stuck tokens rest (is ∙ ap Stuck same) in
        let other = second place.value place.is_allowed in
        record {
          seen = place.seen;
          whole = place.whole;
          value = (place.value, other.some);
          more = place.more ++ written_second place.value other.some;
          is_allowed = λ j. place.is_allowed j && other.some_allowed j;
          alive = ap (λ (given : List Token). given ++ written_second place.value other.some) place.alive
              ∙ append_assoc place.seen place.more (written_second place.value other.some);
          fixed = λ next after other begins. ap (λ (given : Outcome First). read_after given read_second) (place.fixed next after other begins);
        }

-- the same values, seen in another way
pub mapped_exact : {Value Seen : Type 0} (allowed : Value → Bool) (written : Value → List Token) (read : List Token → Outcome Value)
    (view : Value → Seen) (allowed_seen : Seen → Bool) (written_seen : Seen → List Token)
    → ((value : Value) → allowed value ≡ true → (allowed_seen (view value) ≡ true) × (written_seen (view value) ≡ written value))
    → ((seen : Seen) → allowed_seen seen ≡ true → (value : Value) × (view value ≡ seen) × (allowed value ≡ true))
    → IsExact allowed written read → IsExact allowed_seen written_seen (λ (tokens : List Token). mapped view (read tokens))
mapped_exact {Value} {Seen} allowed written read view allowed_seen written_seen same onto exact = record {
  some = view exact.some;
  some_allowed = (same exact.some exact.some_allowed).0;
  back = λ seen rest is.
      let value = onto seen is in
      ap (λ (given : List Token). mapped view (read (given ++ rest))) (ap written_seen (sym value.1) ∙ (same value.0 value.2).1)
      ∙ ap (mapped view) (exact.back value.0 rest value.2)
      ∙ ap (λ (given : Seen). Got given rest) value.1;
  found = λ tokens seen rest got. found_seen tokens seen rest (read tokens) refl got;
  stuck = λ tokens rest stuck. stuck_seen tokens rest (read tokens) refl stuck;
}
  where
    found_seen : (tokens : List Token) (seen : Seen) (rest : List Token) (given : Outcome Value) → read tokens ≡ given → mapped view given ≡ Got seen rest
        → (allowed_seen seen ≡ true) × (tokens ≡ written_seen seen ++ rest)
    found_seen tokens seen rest (Got value following) is got =
        let same_seen : view value ≡ seen = cc in
        let same_rest : following ≡ rest = cc in
        let facts = exact.found tokens value following is in
        let reported = same value facts.0 in (
          ap allowed_seen (sym same_seen) ∙ reported.0,
          facts.1 ∙ ap (λ (given : List Token). given ++ following) (sym reported.1 ∙ ap written_seen same_seen)
              ∙ ap (λ (given : List Token). written_seen seen ++ given) same_rest,
        )
    found_seen tokens seen rest (Stuck following) is got = absurd cc

    stuck_seen : (tokens rest : List Token) (given : Outcome Value) → read tokens ≡ given → mapped view given ≡ Stuck rest
        → IsStuck allowed_seen written_seen (λ (tokens : List Token). mapped view (read tokens)) tokens rest
    stuck_seen tokens rest (Got value following) is stuck = absurd cc
    stuck_seen tokens rest (Stuck following) is stuck =
        let alike : following ≡ rest = cc in
        let place = exact.stuck tokens rest (is ∙ ap Stuck alike) in
        let reported = same place.value place.is_allowed in
        record {
          seen = place.seen;
          whole = place.whole;
          value = view place.value;
          more = place.more;
          is_allowed = reported.0;
          alive = reported.1 ∙ place.alive;
          fixed = λ next after other begins. ap (mapped view) (place.fixed next after other begins);
        }

nothing_exact : IsExact (λ (done : ⊤). true) (λ (done : ⊤). []) (read_fixed [])
unfolding read_fixed
nothing_exact = record {
  some = tt;
  some_allowed = refl;
  back = λ value rest is. refl;
  found = λ tokens value rest got. (refl, cc);
  stuck = λ tokens rest stuck. absurd cc;
}

-- fixed tokens: each one in turn
abbrev same_token : Token → Token → Option ⊤
same_token due token = elim (bytes_eq due token) [ true ↦ Some tt | false ↦ None ]

token_exact : (due : Token) → IsExact (λ (done : ⊤). true) (λ (done : ⊤). due ∷ []) (read_one (same_token due))
token_exact due = one_exact (same_token due) (λ done. due) (λ done. true) tt refl (λ value is. by_back (bytes_eq due due) ((bytes_eq-Decides due due).1 refl))
    (λ token value got. (refl, by_found token (bytes_eq due token) refl got))
  where
    by_back : (given : Bool) → given ≡ true → elim given as (λ _. Option ⊤) [ true ↦ Some tt | false ↦ None ] ≡ Some tt
    by_back true is = refl
    by_back false is = absurd cc

    by_found : (token : Token) (given : Bool) → bytes_eq due token ≡ given → {value : ⊤} → elim given as (λ _. Option ⊤) [ true ↦ Some tt | false ↦ None ] ≡ Some value → token ≡ due
    by_found token true is got = sym ((bytes_eq-Decides due token).0 is)
    by_found token false is got = absurd cc

-- a reader that is the same at each list of tokens is as exact
pub same_reader : {Value : Type 0} (allowed : Value → Bool) (written : Value → List Token) (one other : List Token → Outcome Value)
    → ((tokens : List Token) → one tokens ≡ other tokens) → IsExact allowed written one → IsExact allowed written other
same_reader {Value} allowed written one other same exact = record {
  some = exact.some;
  some_allowed = exact.some_allowed;
  back = λ value rest is. sym (same (written value ++ rest)) ∙ exact.back value rest is;
  found = λ tokens value rest got. exact.found tokens value rest (same tokens ∙ got);
  stuck = λ tokens rest is.
      let place = exact.stuck tokens rest (same tokens ∙ is) in
      record {
        seen = place.seen;
        whole = place.whole;
        value = place.value;
        more = place.more;
        is_allowed = place.is_allowed;
        alive = place.alive;
        fixed = λ next after rest begins. sym (same (place.seen ++ next ∷ rest)) ∙ place.fixed next after rest begins;
      };
}

fixed_step : (due : Token) (more tokens : List Token)
    → mapped (λ (both : ⊤ × ⊤). tt) (read_then (read_one (same_token due)) (λ (done : ⊤). read_fixed more) tokens) ≡ read_fixed (due ∷ more) tokens
unfolding read_fixed
fixed_step due more [] = refl
fixed_step due more (token ∷ tokens) = by_token (bytes_eq due token)
  where
    done : (given : Outcome ⊤) → mapped (λ (both : ⊤ × ⊤). tt) (with_first tt given) ≡ given
    done (Got tt rest) = refl
    done (Stuck rest) = refl

    by_token : (same : Bool)
        → mapped (λ (both : ⊤ × ⊤). tt) (read_after (elim (elim same as (λ _. Option ⊤) [ true ↦ Some tt | false ↦ None ]) as (λ _. Outcome ⊤) [ None ↦ Stuck (token ∷ tokens) | Some value ↦ Got value tokens ]) (λ (one : ⊤). read_fixed more))
        ≡ elim same as (λ _. Outcome ⊤) [ true ↦ read_fixed more tokens | false ↦ Stuck (token ∷ tokens) ]
    by_token true = done (read_fixed more tokens)
    by_token false = refl

pub fixed_exact : (due : List Token) → IsExact (λ (done : ⊤). true) (λ (done : ⊤). due) (read_fixed due)
fixed_exact [] = nothing_exact
fixed_exact (due ∷ more) =
    same_reader (λ (done : ⊤). true) (λ (done : ⊤). due ∷ more)
    (λ tokens. mapped (λ (both : ⊤ × ⊤). tt) (read_then (read_one (same_token due)) (λ (done : ⊤). read_fixed more) tokens)) (read_fixed (due ∷ more))
    (fixed_step due more)
    (mapped_exact (λ (both : ⊤ × ⊤). true && true) (λ (both : ⊤ × ⊤). (due ∷ []) ++ more)
    (read_then (read_one (same_token due)) (λ (done : ⊤). read_fixed more)) (λ both. tt) (λ done. true) (λ done. due ∷ more)
    (λ value is. (refl, refl)) (λ seen is. ((tt, tt), refl, refl))
    (then_exact (λ (done : ⊤). true) (λ (done : ⊤). due ∷ []) (read_one (same_token due)) (λ (done : ⊤) (also : ⊤). true) (λ (done : ⊤) (also : ⊤). more) (λ (done : ⊤). read_fixed more)
    (token_exact due) (λ first is. fixed_exact more)))

-- a form for each part
pub each_exact : {Part Item : Type 0} (allowed : Part → Item → Bool) (written : Part → Item → List Token) (read : Part → List Token → Outcome Item)
    → ((part : Part) → IsExact (allowed part) (written part) (read part)) → (parts : List Part)
    → IsExact (all_each allowed parts) (written_each written parts) (read_each read parts)
unfolding read_each written_each all_each
each_exact {Part} {Item} allowed written read exact [] = record {
  some = [];
  some_allowed = refl;
  back = λ items rest is. by_items items rest is;
  found = λ tokens items rest got. let none : [] ≡ items = cc in (ap (all_each allowed []) (sym none), cc);
  stuck = λ tokens rest stuck. absurd cc;
}
  where
    by_items : (items : List Item) (rest : List Token) → all_each allowed [] items ≡ true → read_each read [] ([] ++ rest) ≡ Got items rest
    by_items [] rest is = refl
    by_items (item ∷ items) rest is = absurd cc
each_exact {Part} {Item} allowed written read exact (part ∷ parts) =
    mapped_exact (λ (both : Item × List Item). allowed part both.0 && all_each allowed parts both.1)
    (λ (both : Item × List Item). written part both.0 ++ written_each written parts both.1)
    (read_then (read part) (λ (item : Item). read_each read parts)) (λ both. both.0 ∷ both.1) (all_each allowed (part ∷ parts)) (written_each written (part ∷ parts))
    (λ value is. (is, refl)) onto
    (then_exact (allowed part) (written part) (read part) (λ (item : Item). all_each allowed parts) (λ (item : Item). written_each written parts) (λ (item : Item). read_each read parts)
    (exact part) (λ item is. each_exact allowed written read exact parts))
  where
    onto : (items : List Item) → all_each allowed (part ∷ parts) items ≡ true
        → (value : Item × List Item) × (value.0 ∷ value.1 ≡ items) × ((allowed part value.0 && all_each allowed parts value.1) ≡ true)
    onto [] is = absurd cc
    onto (item ∷ items) is = ((item, items), refl, is)
