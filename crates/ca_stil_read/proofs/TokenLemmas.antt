-- The token that a text begins with, cut off by its length.
use Rattle.std.proofs.Common.{◌≡◌, ℕ, suc, ◌+◌, ◌==◌, Bool, true, false, not, ◌||◌, List, [], ◌∷◌, ◌++◌}
use Rattle.std.proofs.Common.{length, take, drop, refl, sym, ap, ◌∙◌, arith, append_assoc, subst, ◌≤◌, ◌<◌}
use Rattle.std.proofs.Common.{Option, Some, None, Bor}
use Rattle.std.specs.Prelude.{if◌then◌else◌, MatchOption}
use Rattle.std.specs.List.{prefix_len}
use Rattle.std.proofs.lemmas.List.{append-nil}
use Rattle.std.proofs.lemmas.Bool.{eqb-true}
use Rattle.std.proofs.lemmas.Bool.Decides.{nat_tests}
use Rattle.ca_stil_form.specs.Form.{Token}
use Rattle.ca_stil_form.specs.Tokens.{Between, InWord, InName, InGroup, InMember, is_space, is_mark}
use Rattle.ca_stil_form.specs.Tokens.{is_inside, begun, alone, tokens_from, tokens_of, word_len, name_len}
use Rattle.ca_stil_form.specs.Tokens.{group_len, first_len, trimmed}
use Rattle.ca_stil_form.specs.code.Tokens.{BeginsToken, IsTrimmed}

-- so many bytes of this list end the text, and the tokens after them follow
abbrev cut : List ℕ → ℕ → List ℕ → List Token
cut text len rest = (text ++ take len rest) ∷ tokens_of (drop len rest)

cut_more : (text : List ℕ) (byte : ℕ) (len : ℕ) (rest : List ℕ) → cut (text ++ byte ∷ []) len rest ≡ cut text (suc len) (byte ∷ rest)
cut_more text byte len rest = ap (λ (given : List ℕ). given ∷ tokens_of (drop len rest)) (append_assoc text (byte ∷ []) (take len rest))

name_cut : (text rest : List ℕ) → tokens_from (InName text) rest ≡ cut text (name_len rest) rest
unfolding tokens_from
name_cut text [] = ap (λ (given : List ℕ). given ∷ []) (sym (append-nil text))
name_cut text (byte ∷ rest) = by (byte == 34) refl (name_cut (text ++ byte ∷ []) rest)
  where
    by : (test : Bool) → (byte == 34) ≡ test → tokens_from (InName (text ++ byte ∷ [])) rest ≡ cut (text ++ byte ∷ []) (name_len rest) rest
        → (if test then (text ++ 34 ∷ []) ∷ [] else []) ++ tokens_from (if test then Between else InName (text ++ byte ∷ [])) rest
        ≡ cut text (if test then 1 else suc (name_len rest)) (byte ∷ rest)
    by true is later = ap (λ (given : ℕ). (text ++ given ∷ []) ∷ tokens_of rest) (sym (eqb-true byte 34 is))
    by false is later = later ∙ cut_more text byte (name_len rest) rest

group_cut : (in_name : Bool) (text rest : List ℕ)
    → tokens_from (if in_name then InMember text else InGroup text) rest ≡ cut text (group_len in_name rest) rest
unfolding tokens_from
group_cut true text [] = ap (λ (given : List ℕ). given ∷ []) (sym (append-nil text))
group_cut false text [] = ap (λ (given : List ℕ). given ∷ []) (sym (append-nil text))
group_cut true text (byte ∷ rest) = by (byte == 34) refl (λ in_name. group_cut in_name (text ++ byte ∷ []) rest)
  where
    by : (test : Bool) → (byte == 34) ≡ test
        → ((in_name : Bool) → tokens_from (if in_name then InMember (text ++ byte ∷ []) else InGroup (text ++ byte ∷ [])) rest ≡ cut (text ++ byte ∷ []) (group_len in_name rest) rest)
        → tokens_from (if test then InGroup (text ++ 34 ∷ []) else InMember (text ++ byte ∷ [])) rest ≡ cut text (suc (group_len (not test) rest)) (byte ∷ rest)
    by true is later = ap (λ (given : ℕ). tokens_from (InGroup (text ++ given ∷ [])) rest) (sym (eqb-true byte 34 is)) ∙ later false ∙ cut_more text byte (group_len false rest) rest
    by false is later = later true ∙ cut_more text byte (group_len true rest) rest
group_cut false text (byte ∷ rest) = by (byte == 39) refl (byte == 34) refl (λ in_name. group_cut in_name (text ++ byte ∷ []) rest)
  where
    by : (closes : Bool) → (byte == 39) ≡ closes → (opens : Bool) → (byte == 34) ≡ opens
        → ((in_name : Bool) → tokens_from (if in_name then InMember (text ++ byte ∷ []) else InGroup (text ++ byte ∷ [])) rest ≡ cut (text ++ byte ∷ []) (group_len in_name rest) rest)
        → (if closes then (text ++ 39 ∷ []) ∷ [] else [])
        ++ tokens_from (if closes then Between else (if opens then InMember (text ++ 34 ∷ []) else InGroup (text ++ byte ∷ []))) rest
        ≡ cut text (if closes then 1 else suc (group_len opens rest)) (byte ∷ rest)
    by true is opens opens_is later = ap (λ (given : ℕ). (text ++ given ∷ []) ∷ tokens_of rest) (sym (eqb-true byte 39 is))
    by false is true opens_is later =
        ap (λ (given : ℕ). tokens_from (InMember (text ++ given ∷ [])) rest) (sym (eqb-true byte 34 opens_is)) ∙ later true ∙ cut_more text byte (group_len true rest) rest
    by false is false opens_is later = later false ∙ cut_more text byte (group_len false rest) rest

word_cut : (text rest : List ℕ) → tokens_from (InWord text) rest ≡ cut text (word_len rest) rest
unfolding tokens_from
word_cut text [] = ap (λ (given : List ℕ). given ∷ []) (sym (append-nil text))
word_cut text (byte ∷ rest) = by (is_inside byte) refl (word_cut (text ++ byte ∷ []) rest)
  where
    by : (test : Bool) → is_inside byte ≡ test → tokens_from (InWord (text ++ byte ∷ [])) rest ≡ cut (text ++ byte ∷ []) (word_len rest) rest
        → (if test then [] else text ∷ alone byte) ++ tokens_from (if test then InWord (text ++ byte ∷ []) else begun byte) rest
        ≡ cut text (if test then suc (word_len rest) else 0) (byte ∷ rest)
    by true is later = later ∙ cut_more text byte (word_len rest) rest
    by false is later = ap (λ (given : List ℕ). given ∷ (alone byte ++ tokens_from (begun byte) rest)) (sym (append-nil text))

-- spaces before a token are passed over
pub space_passed : (byte : ℕ) (rest : List ℕ) → is_space byte ≡ true → tokens_of (byte ∷ rest) ≡ tokens_of rest
unfolding tokens_from
space_passed byte rest is = grind (arith, nat_tests)

-- the first token, and those after it
pub first_cut : (text : List ℕ) → BeginsToken text → tokens_of text ≡ take (first_len text) text ∷ tokens_of (drop (first_len text) text)
unfolding tokens_from
first_cut [] begins = absurd begins
first_cut (byte ∷ rest) begins =
    by (is_space byte) (is_mark byte) (byte == 34) (byte == 39) begins (λ is. grind (arith, nat_tests)) (λ is. grind (arith, nat_tests))
    (eqb-true byte 34) (eqb-true byte 39)
  where
    by : (space mark double single : Bool) → space ≡ false → (mark ≡ true → double ≡ false) → (mark ≡ true → single ≡ false) → (double ≡ true → byte ≡ 34) → (single ≡ true → byte ≡ 39)
        → (if mark then (byte ∷ []) ∷ [] else []) ++ tokens_from (if not (space || mark || (double || single)) then InWord (byte ∷ []) else (if double then InName (34 ∷ []) else (if single then InGroup (39 ∷ []) else Between))) rest
        ≡ cut [] (if mark then 1 else (if double then suc (name_len rest) else (if single then suc (group_len false rest) else (if not (space || mark || (double || single)) then suc (word_len rest) else 0)))) (byte ∷ rest)
    by true mark double single begins no_double no_single is_double is_single = absurd cc
    by false true true single begins no_double no_single is_double is_single = let no : true ≡ false = no_double refl in absurd cc
    by false true false true begins no_double no_single is_double is_single = let no : true ≡ false = no_single refl in absurd cc
    by false true false false begins no_double no_single is_double is_single = refl
    by false false true single begins no_double no_single is_double is_single =
        name_cut (34 ∷ []) rest ∙ ap (λ (given : ℕ). (given ∷ take (name_len rest) rest) ∷ tokens_of (drop (name_len rest) rest)) (sym (is_double refl))
    by false false false true begins no_double no_single is_double is_single =
        group_cut false (39 ∷ []) rest ∙ ap (λ (given : ℕ). (given ∷ take (group_len false rest) rest) ∷ tokens_of (drop (group_len false rest) rest)) (sym (is_single refl))
    by false false false false begins no_double no_single is_double is_single = word_cut (byte ∷ []) rest

pub first_at : (text front back : List ℕ) (len : ℕ) → BeginsToken text → len ≡ first_len text → front ≡ take len text → back ≡ drop len text
    → tokens_of text ≡ front ∷ tokens_of back
first_at text front back len begins len_is front_is back_is =
    first_cut text begins ∙ (λ j. take (sym len_is j) text ∷ tokens_of (drop (sym len_is j) text)) ∙ (λ j. sym front_is j ∷ tokens_of (sym back_is j))

drop_more : (len byte : ℕ) (rest : List ℕ) → drop (1 + len) (byte ∷ rest) ≡ drop len rest
drop_more len byte rest = ap (λ (n : ℕ). drop n (byte ∷ rest)) (one_more len)
  where
    one_more : (n : ℕ) → 1 + n ≡ suc n
    one_more n = omega arith

-- spaces are passed over
pub trimmed_is : (text : List ℕ) → (tokens_of (trimmed text) ≡ tokens_of text) × IsTrimmed (trimmed text) × (length (trimmed text) ≤ length text)
trimmed_is [] = (refl, tt, omega arith)
trimmed_is (byte ∷ rest) = by (is_space byte) refl (trimmed_is rest)
  where
    by : (test : Bool) → is_space byte ≡ test → (tokens_of (trimmed rest) ≡ tokens_of rest) × IsTrimmed (trimmed rest) × (length (trimmed rest) ≤ length rest)
        → (tokens_of (drop (if test then 1 + prefix_len is_space rest else 0) (byte ∷ rest)) ≡ tokens_of (byte ∷ rest))
        × IsTrimmed (drop (if test then 1 + prefix_len is_space rest else 0) (byte ∷ rest))
        × (length (drop (if test then 1 + prefix_len is_space rest else 0) (byte ∷ rest)) ≤ length (byte ∷ rest))
    by true is later =
        let cut : trimmed rest ≡ drop (1 + prefix_len is_space rest) (byte ∷ rest) = sym (drop_more (prefix_len is_space rest) byte rest) in
        let fits : length (trimmed rest) ≤ length (byte ∷ rest) = omega (arith, later.2) in
        (ap tokens_of (sym cut) ∙ later.0 ∙ sym (space_passed byte rest is), subst IsTrimmed cut later.1, subst (λ (given : List ℕ). length given ≤ length (byte ∷ rest)) cut fits)
    by false is later = (refl, is, omega arith)

-- what is found in a trimmed text is found in the text
pub found_in : (text seen : List ℕ) → seen ≡ trimmed text → (found : Option (Bor (List ℕ) × Bor (List ℕ)))
    → MatchOption found (seen ≡ []) (λ both. (tokens_of seen ≡ both.0.now ∷ tokens_of both.1.now) × (length both.1.now < length seen))
    → MatchOption found (tokens_of text ≡ []) (λ both. (tokens_of text ≡ both.0.now ∷ tokens_of both.1.now) × (length both.1.now < length text))
unfolding tokens_from
found_in text seen is None known = sym (trimmed_is text).0 ∙ ap tokens_of (sym is ∙ known)
found_in text seen is (Some both) known =
    let same : length seen ≡ length (trimmed text) = ap length is in
    (sym (trimmed_is text).0 ∙ ap tokens_of (sym is) ∙ known.0, omega (arith, known.1, same, (trimmed_is text).2))

pub trimmed_begins : (text seen : List ℕ) → seen ≡ trimmed text → IsTrimmed seen
trimmed_begins text seen is = subst IsTrimmed (sym is) (trimmed_is text).1
