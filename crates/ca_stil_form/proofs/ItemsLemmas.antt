-- A reader of items up to a closing token is exact where the reader of an item is.
use Rattle.std.proofs.Common.{◌≡◌, ℕ, zero, suc, ◌+◌, ◌<◌, ◌≤◌, Bool, true, false, ◌&&◌, List, [], ◌∷◌, ◌++◌}
use Rattle.std.proofs.Common.{length, refl, sym, ap, ◌∙◌, arith, append_assoc, length-append, subst}
use Rattle.std.specs.Str.{bytes_eq}
use Rattle.std.proofs.lemmas.Slice.Eq.{bytes_eq-Decides}
use Rattle.ca_stil_form.specs.Form.{Token, Outcome, Got, Stuck, with_first, read_after, mapped}
use Rattle.ca_stil_form.specs.code.Form.{IsExact}
use Rattle.ca_stil_form.specs.Form.{read_until, written_until, all_allowed, read_items}
use Rattle.ca_stil_form.specs.code.Form.{BeginsOther}
use Rattle.ca_stil_form.proofs.FormLemmas.{left_true, right_true}

pub begins_other_more : (key : Token) (tokens more : List Token) → BeginsOther key tokens → BeginsOther key (tokens ++ more)
begins_other_more key [] more begins = absurd begins
begins_other_more key (token ∷ tokens) more begins = begins

pub some_tokens : (key : Token) (tokens : List Token) → BeginsOther key tokens → 1 ≤ length tokens
some_tokens key [] begins = absurd begins
some_tokens key (token ∷ tokens) begins = omega arith

-- what is seen before another token begins as before
pub begins_as_seen : (key token : Token) (tokens seen : List Token) (next : Token) (after other : List Token)
    → token ∷ tokens ≡ seen ++ next ∷ after → bytes_eq key token ≡ false → BeginsOther key (seen ++ next ∷ other)
begins_as_seen key token tokens [] next after other whole is =
    let same : token ≡ next = cc in
    ap (bytes_eq key) (sym same) ∙ is
begins_as_seen key token tokens (one ∷ seen) next after other whole is =
    let same : token ≡ one = cc in
    ap (bytes_eq key) (sym same) ∙ is

shorter : (one more : List Token) (clock : ℕ) → 1 ≤ length one → length (one ++ more) < suc clock → length more < clock
shorter one more clock some below = omega (arith, length-append one more)

-- what a step of the items makes of the tokens where the next one doesn't close them
abbrev pub next_items : {Item : Type 0} → Token → (ℕ → List Token → Outcome Item) → ℕ → ℕ → List Token → Outcome (List Item)
next_items close read_item clock number tokens =
    mapped (λ both. both.0 ∷ both.1) (read_after (read_item number tokens) (λ item. read_until close read_item clock (number + 1)))

pub until_step : {Item : Type 0} (close : Token) (read_item : ℕ → List Token → Outcome Item) (clock number : ℕ) (tokens : List Token)
    → BeginsOther close tokens → read_until close read_item (suc clock) number tokens ≡ next_items close read_item clock number tokens
unfolding read_until
until_step close read_item clock number [] begins = absurd begins
until_step {Item} close read_item clock number (token ∷ tokens) begins =
    ap (λ (given : Bool). elim given as (λ _. Outcome (List Item)) [ true ↦ Got [] tokens | false ↦ next_items close read_item clock number (token ∷ tokens) ]) begins

pub until_close : {Item : Type 0} (close : Token) (read_item : ℕ → List Token → Outcome Item) (clock number : ℕ) (token : Token) (tokens : List Token)
    → bytes_eq close token ≡ true → read_until close read_item (suc clock) number (token ∷ tokens) ≡ Got [] tokens
unfolding read_until
until_close {Item} close read_item clock number token tokens is =
    ap (λ (given : Bool). elim given as (λ _. Outcome (List Item)) [ true ↦ Got [] tokens | false ↦ next_items close read_item clock number (token ∷ tokens) ]) is

-- stuck among the items, whatever the clock says
record IsStuckUntil {Item : Type 0} (close : Token) (allowed : ℕ → Item → Bool) (written : ℕ → Item → List Token) (read_item : ℕ → List Token → Outcome Item)
    (number : ℕ) (tokens rest : List Token) : Type 0 where
  pub seen : List Token
  pub whole : tokens ≡ seen ++ rest
  pub value : List Item
  pub more : List Token
  pub is_allowed : all_allowed allowed number value ≡ true
  pub alive : written_until close written number value ≡ seen ++ more
  pub fixed : (next : Token) (after other : List Token) (clock : ℕ) → rest ≡ next ∷ after → length (seen ++ next ∷ other) < clock
      → read_until close read_item clock number (seen ++ next ∷ other) ≡ Stuck (next ∷ other)

pub items_exact : {Item : Type 0} (close : Token) (allowed : ℕ → Item → Bool) (written : ℕ → Item → List Token) (read_item : ℕ → List Token → Outcome Item)
    → ((number : ℕ) → IsExact (allowed number) (written number) (read_item number))
    → ((number : ℕ) (item : Item) → allowed number item ≡ true → BeginsOther close (written number item))
    → (number : ℕ) → IsExact (all_allowed allowed number) (written_until close written number) (read_items close read_item number)
unfolding read_until written_until all_allowed
items_exact {Item} close allowed written read_item exact opens number = record {
  some = [];
  some_allowed = refl;
  back = λ items rest is. until_back items (suc (length (written_until close written number items ++ rest))) number rest (omega arith) is;
  found = λ tokens items rest got. until_found (suc (length tokens)) number tokens items rest got;
  stuck = λ tokens rest stuck.
      let place = until_stuck (suc (length tokens)) number tokens rest (omega arith) stuck in
      record {
        seen = place.seen;
        whole = place.whole;
        value = place.value;
        more = place.more;
        is_allowed = place.is_allowed;
        alive = place.alive;
        fixed = λ next after other begins. place.fixed next after other (suc (length (place.seen ++ next ∷ other))) begins (omega arith);
      };
}
  where
    until_back : (items : List Item) (clock number : ℕ) (rest : List Token) → length (written_until close written number items ++ rest) < clock
        → all_allowed allowed number items ≡ true → read_until close read_item clock number (written_until close written number items ++ rest) ≡ Got items rest
    until_back items zero number rest below is = absurd (omega (arith, below))
    until_back [] (suc clock) number rest below is = until_close close read_item clock number close rest ((bytes_eq-Decides close close).1 refl)
    until_back (item ∷ items) (suc clock) number rest below is =
        let item_allowed = left_true (allowed number item) (all_allowed allowed (number + 1) items) is in
        let others_allowed = right_true (allowed number item) (all_allowed allowed (number + 1) items) is in
        let begins = opens number item item_allowed in
        let others : List Token = written_until close written (number + 1) items in
        let joined : (written number item ++ others) ++ rest ≡ written number item ++ (others ++ rest) = append_assoc (written number item) others rest in
        let fits : length (written number item ++ (others ++ rest)) < suc clock = subst (λ (given : List Token). length given < suc clock) joined below in
        ap (read_until close read_item (suc clock) number) joined
        ∙ until_step close read_item clock number (written number item ++ (others ++ rest)) (begins_other_more close (written number item) (others ++ rest) begins)
        ∙ ap (λ (given : Outcome Item). mapped (λ both. both.0 ∷ both.1) (read_after given (λ item. read_until close read_item clock (number + 1))))
        ((exact number).back item (others ++ rest) item_allowed)
        ∙ ap (λ (given : Outcome (List Item)). mapped (λ (both : Item × List Item). both.0 ∷ both.1) (with_first item given))
        (until_back items clock (number + 1) rest (shorter (written number item) (others ++ rest) clock (some_tokens close (written number item) begins) fits) others_allowed)

    found_after : (clock number : ℕ) (tokens : List Token) (items : List Item) (rest : List Token) (item : Item) (following : List Token) (given : Outcome (List Item))
        → read_item number tokens ≡ Got item following
        → ((others : List Item) (after : List Token) → given ≡ Got others after → (all_allowed allowed (number + 1) others ≡ true) × (following ≡ written_until close written (number + 1) others ++ after))
        → mapped (λ (both : Item × List Item). both.0 ∷ both.1) (with_first item given) ≡ Got items rest
        → (all_allowed allowed number items ≡ true) × (tokens ≡ written_until close written number items ++ rest)
    found_after clock number tokens items rest item following (Got others after) is later got =
        let same_items : item ∷ others ≡ items = cc in
        let same_rest : after ≡ rest = cc in
        let facts = (exact number).found tokens item following is in
        let more = later others after refl in (
          ap (all_allowed allowed number) (sym same_items) ∙ (λ j. facts.0 j && more.0 j),
          facts.1 ∙ ap (λ (given : List Token). written number item ++ given) more.1
              ∙ sym (append_assoc (written number item) (written_until close written (number + 1) others) after)
              ∙ ap (λ (given : List Item). written_until close written number given ++ after) same_items
              ∙ ap (λ (given : List Token). written_until close written number items ++ given) same_rest,
        )
    found_after clock number tokens items rest item following (Stuck after) is later got = absurd cc

    found_item : (clock number : ℕ) (tokens : List Token) (items : List Item) (rest : List Token) (given : Outcome Item)
        → read_item number tokens ≡ given
        → ((following : List Token) (others : List Item) (after : List Token) → read_until close read_item clock (number + 1) following ≡ Got others after
        → (all_allowed allowed (number + 1) others ≡ true) × (following ≡ written_until close written (number + 1) others ++ after))
        → mapped (λ (both : Item × List Item). both.0 ∷ both.1) (read_after given (λ item. read_until close read_item clock (number + 1))) ≡ Got items rest
        → (all_allowed allowed number items ≡ true) × (tokens ≡ written_until close written number items ++ rest)
    found_item clock number tokens items rest (Got item following) is later got =
        found_after clock number tokens items rest item following (read_until close read_item clock (number + 1) following) is (later following) got
    found_item clock number tokens items rest (Stuck following) is later got = absurd cc

    found_token : (clock number : ℕ) (token : Token) (tokens : List Token) (items : List Item) (rest : List Token) (same : Bool)
        → bytes_eq close token ≡ same
        → ((following : List Token) (others : List Item) (after : List Token) → read_until close read_item clock (number + 1) following ≡ Got others after
        → (all_allowed allowed (number + 1) others ≡ true) × (following ≡ written_until close written (number + 1) others ++ after))
        → elim same as (λ _. Outcome (List Item)) [ true ↦ Got [] tokens | false ↦ next_items close read_item clock number (token ∷ tokens) ] ≡ Got items rest
        → (all_allowed allowed number items ≡ true) × (token ∷ tokens ≡ written_until close written number items ++ rest)
    found_token clock number token tokens items rest true is later got =
        let none : [] ≡ items = cc in
        let same_rest : tokens ≡ rest = cc in
        let same : close ≡ token = (bytes_eq-Decides close token).0 is in (
          ap (all_allowed allowed number) (sym none),
          ap (λ (given : Token). given ∷ tokens) (sym same) ∙ ap (λ (given : List Token). close ∷ given) same_rest
              ∙ ap (λ (given : List Item). written_until close written number given ++ rest) none,
        )
    found_token clock number token tokens items rest false is later got =
        found_item clock number (token ∷ tokens) items rest (read_item number (token ∷ tokens)) refl later got

    until_found : (clock number : ℕ) (tokens : List Token) (items : List Item) (rest : List Token) → read_until close read_item clock number tokens ≡ Got items rest
        → (all_allowed allowed number items ≡ true) × (tokens ≡ written_until close written number items ++ rest)
    until_found zero number tokens items rest got = absurd cc
    until_found (suc clock) number [] items rest got = absurd cc
    until_found (suc clock) number (token ∷ tokens) items rest got =
        found_token clock number token tokens items rest (bytes_eq close token) refl (λ following others after. until_found clock (number + 1) following others after) got

    stuck_after : (clock number : ℕ) (token : Token) (tokens rest : List Token) (item : Item) (following : List Token) (given : Outcome (List Item))
        → bytes_eq close token ≡ false → read_item number (token ∷ tokens) ≡ Got item following
        → ((after : List Token) → given ≡ Stuck after → IsStuckUntil close allowed written read_item (number + 1) following after)
        → mapped (λ (both : Item × List Item). both.0 ∷ both.1) (with_first item given) ≡ Stuck rest
        → IsStuckUntil close allowed written read_item number (token ∷ tokens) rest
    stuck_after clock number token tokens rest item following (Got others after) other_token is later stuck = absurd cc
    stuck_after clock number token tokens rest item following (Stuck after) other_token is later stuck =
        let same : after ≡ rest = cc in
        let facts = (exact number).found (token ∷ tokens) item following is in
        let place = later rest (ap Stuck same) in
        let begins = opens number item facts.0 in
        record {
          seen = written number item ++ place.seen;
          whole = facts.1 ∙ ap (λ (given : List Token). written number item ++ given) place.whole ∙ sym (append_assoc (written number item) place.seen rest);
          value = item ∷ place.value;
          more = place.more;
          is_allowed = λ j. facts.0 j && place.is_allowed j;
          alive = ap (λ (given : List Token). written number item ++ given) place.alive ∙ sym (append_assoc (written number item) place.seen place.more);
          fixed = λ next past other clock goes below.
              ap (read_until close read_item clock number) (append_assoc (written number item) place.seen (next ∷ other))
              ∙ fixed_after number item facts.0 (place.seen ++ next ∷ other) (next ∷ other) clock
              (subst (λ (given : List Token). length given < clock) (append_assoc (written number item) place.seen (next ∷ other)) below)
              (λ clock. place.fixed next past other clock goes);
        }
      where
        fixed_after : (number : ℕ) (item : Item) → allowed number item ≡ true → (after rest : List Token) (clock : ℕ) → length (written number item ++ after) < clock
            → ((clock : ℕ) → length after < clock → read_until close read_item clock (number + 1) after ≡ Stuck rest)
            → read_until close read_item clock number (written number item ++ after) ≡ Stuck rest
        fixed_after number item is after rest zero below later = absurd (omega (arith, below))
        fixed_after number item is after rest (suc clock) below later =
            let begins = opens number item is in
            until_step close read_item clock number (written number item ++ after) (begins_other_more close (written number item) after begins)
            ∙ ap (λ (given : Outcome Item). mapped (λ both. both.0 ∷ both.1) (read_after given (λ item. read_until close read_item clock (number + 1)))) ((exact number).back item after is)
            ∙ ap (λ (given : Outcome (List Item)). mapped (λ (both : Item × List Item). both.0 ∷ both.1) (with_first item given))
            (later clock (shorter (written number item) after clock (some_tokens close (written number item) begins) below))

    stuck_item : (clock number : ℕ) (token : Token) (tokens rest : List Token) (given : Outcome Item)
        → length (token ∷ tokens) < suc clock → bytes_eq close token ≡ false → read_item number (token ∷ tokens) ≡ given
        → ((following after : List Token) → length following < clock → read_until close read_item clock (number + 1) following ≡ Stuck after
        → IsStuckUntil close allowed written read_item (number + 1) following after)
        → mapped (λ (both : Item × List Item). both.0 ∷ both.1) (read_after given (λ item. read_until close read_item clock (number + 1))) ≡ Stuck rest
        → IsStuckUntil close allowed written read_item number (token ∷ tokens) rest
    stuck_item clock number token tokens rest (Got item following) below other_token is later stuck =
        let facts = (exact number).found (token ∷ tokens) item following is in
        let fits : length (written number item ++ following) < suc clock = subst (λ (given : List Token). length given < suc clock) facts.1 below in
        stuck_after clock number token tokens rest item following (read_until close read_item clock (number + 1) following) other_token is
        (λ after. later following after (shorter (written number item) following clock (some_tokens close (written number item) (opens number item facts.0)) fits)) stuck
    stuck_item clock number token tokens rest (Stuck following) below other_token is later stuck =
        let same : following ≡ rest = cc in
        let place = (exact number).stuck (token ∷ tokens) rest (is ∙ ap Stuck same) in
        record {
          seen = place.seen;
          whole = place.whole;
          value = place.value ∷ [];
          more = place.more ++ (close ∷ []);
          is_allowed = λ j. place.is_allowed j && true;
          alive = ap (λ (given : List Token). given ++ (close ∷ [])) place.alive ∙ append_assoc place.seen place.more (close ∷ []);
          fixed = λ next after other clock begins below. fixed_item number (place.seen ++ next ∷ other) (next ∷ other) clock below
              (begins_as_seen close token tokens place.seen next after other (place.whole ∙ ap (λ (given : List Token). place.seen ++ given) begins) other_token)
              (place.fixed next after other begins);
        }
      where
        fixed_item : (number : ℕ) (tokens rest : List Token) (clock : ℕ) → length tokens < clock → BeginsOther close tokens
            → read_item number tokens ≡ Stuck rest → read_until close read_item clock number tokens ≡ Stuck rest
        fixed_item number tokens rest zero below begins is = absurd (omega (arith, below))
        fixed_item number tokens rest (suc clock) below begins is =
            until_step close read_item clock number tokens begins
            ∙ ap (λ (given : Outcome Item). mapped (λ both. both.0 ∷ both.1) (read_after given (λ item. read_until close read_item clock (number + 1)))) is

    stuck_token : (clock number : ℕ) (token : Token) (tokens rest : List Token) (same : Bool)
        → length (token ∷ tokens) < suc clock → bytes_eq close token ≡ same
        → ((following after : List Token) → length following < clock → read_until close read_item clock (number + 1) following ≡ Stuck after
        → IsStuckUntil close allowed written read_item (number + 1) following after)
        → elim same as (λ _. Outcome (List Item)) [ true ↦ Got [] tokens | false ↦ next_items close read_item clock number (token ∷ tokens) ] ≡ Stuck rest
        → IsStuckUntil close allowed written read_item number (token ∷ tokens) rest
    stuck_token clock number token tokens rest true below is later stuck = absurd cc
    stuck_token clock number token tokens rest false below is later stuck =
        stuck_item clock number token tokens rest (read_item number (token ∷ tokens)) below is refl later stuck

    until_stuck : (clock number : ℕ) (tokens rest : List Token) → length tokens < clock → read_until close read_item clock number tokens ≡ Stuck rest
        → IsStuckUntil close allowed written read_item number tokens rest
    until_stuck zero number tokens rest below stuck = absurd (omega (arith, below))
    until_stuck (suc clock) number [] rest below stuck = record {
      seen = [];
      whole = cc;
      value = [];
      more = close ∷ [];
      is_allowed = refl;
      alive = refl;
      fixed = λ next after other clock begins. absurd cc;
    }
    until_stuck (suc clock) number (token ∷ tokens) rest below stuck =
        stuck_token clock number token tokens rest (bytes_eq close token) below refl (λ following after. until_stuck clock (number + 1) following after) stuck
