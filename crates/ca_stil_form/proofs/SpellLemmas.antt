-- What a text's pieces and forms spell: their tokens, whatever follows them.
use Rattle.std.proofs.Common.{◌≡◌, ℕ, ◌≤◌, ◌==◌, Bool, true, false, not, ◌&&◌, ◌||◌, List, [], ◌∷◌, ◌++◌}
use Rattle.std.proofs.Common.{length, refl, sym, ap, ◌∙◌, arith, append_assoc, codes}
use Rattle.std.specs.Prelude.{if◌then◌else◌}
use Rattle.std.specs.List.{list_all}
use Rattle.std.proofs.lemmas.List.{append-nil}
use Rattle.ca_stil_form.specs.Form.{Token}
use Rattle.ca_stil_form.specs.Tokens.{Place, Between, InWord, InName, InGroup, InMember, is_space, is_mark}
use Rattle.ca_stil_form.specs.Tokens.{is_quote, is_inside, begun, alone, next_place, ended, tokens_from}
use Rattle.ca_stil_form.specs.Tokens.{tokens_of}
use Rattle.ca_stil_form.specs.Grammar.{fixed}
use Rattle.ca_stil_form.specs.Frame.{Names, is_name_byte, is_name, quoted, joined_more, group_word}
use Rattle.ca_stil_form.proofs.FormLemmas.{left_true, right_true}

-- the text spells these tokens
abbrev pub Spells : List ℕ → List Token → Type 0
Spells text tokens = (rest : List ℕ) → tokens_of (text ++ rest) ≡ tokens ++ tokens_of rest

pub spells_both : (text other : List ℕ) (tokens others : List Token) → Spells text tokens → Spells other others → Spells (text ++ other) (tokens ++ others)
spells_both text other tokens others first second rest =
    ap tokens_of (append_assoc text other rest) ∙ first (other ++ rest) ∙ ap (λ (given : List Token). tokens ++ given) (second rest)
    ∙ sym (append_assoc tokens others (tokens_of rest))

pub spells_nothing : Spells [] []
spells_nothing rest = refl

-- where a reading is after a text, and the tokens that end in it
abbrev pub place_after : Place → List ℕ → Place
place_after place [] = place
place_after place (byte ∷ bytes) = place_after (next_place place byte) bytes

abbrev pub ended_in : Place → List ℕ → List Token
ended_in place [] = []
ended_in place (byte ∷ bytes) = ended place byte ++ ended_in (next_place place byte) bytes

read_on : (place : Place) (text rest : List ℕ) → tokens_from place (text ++ rest) ≡ ended_in place text ++ tokens_from (place_after place text) rest
unfolding tokens_from
read_on place [] rest = refl
read_on place (byte ∷ bytes) rest =
    ap (λ (given : List Token). ended place byte ++ given) (read_on (next_place place byte) bytes rest)
    ∙ sym (append_assoc (ended place byte) (ended_in (next_place place byte) bytes) (tokens_from (place_after (next_place place byte) bytes) rest))

-- a text that ends between tokens spells those that end in it
pub whole_spells : (text : List ℕ) (tokens : List Token) → place_after Between text ≡ Between → ended_in Between text ≡ tokens → Spells text tokens
whole_spells text tokens is same rest =
    read_on Between text rest ∙ (λ j. same j ++ tokens_from (is j) rest)

pub fixed_spells : (text : List ℕ) → place_after Between text ≡ Between → Spells (fixed text).text (fixed text).tokens
unfolding tokens_from
fixed_spells text is = whole_spells text (tokens_of text) is
    (sym (append-nil (ended_in Between text)) ∙ (λ j. ended_in Between text ++ tokens_from (sym is j) []) ∙ sym (read_on Between text []) ∙ ap tokens_of (append-nil text))

-- a name up to its closing quote
abbrev pub is_no_quote : ℕ → Bool
is_no_quote byte = not (byte == 34)

no_quote : (byte : ℕ) → is_no_quote byte ≡ true → (byte == 34) ≡ false
no_quote byte is = by (byte == 34) is
  where
    by : (test : Bool) → not test ≡ true → test ≡ false
    by true is = absurd cc
    by false is = refl

name_closes : (text name rest : List ℕ) → list_all is_no_quote name ≡ true
    → tokens_from (InName text) (name ++ 34 ∷ rest) ≡ (text ++ (name ++ 34 ∷ [])) ∷ tokens_of rest
unfolding tokens_from
name_closes text [] rest is = refl
name_closes text (byte ∷ name) rest is =
    (λ j. (if no_quote byte (left_true (is_no_quote byte) (list_all is_no_quote name) is) j then (text ++ 34 ∷ []) ∷ [] else [])
    ++ tokens_from (if no_quote byte (left_true (is_no_quote byte) (list_all is_no_quote name) is) j then Between else InName (text ++ byte ∷ [])) (name ++ 34 ∷ rest))
    ∙ name_closes (text ++ byte ∷ []) name rest (right_true (is_no_quote byte) (list_all is_no_quote name) is)
    ∙ ap (λ (given : List ℕ). given ∷ tokens_of rest) (append_assoc text (byte ∷ []) (name ++ 34 ∷ []))

pub quoted_spells : (name : List ℕ) → list_all is_no_quote name ≡ true → Spells (quoted name) (quoted name ∷ [])
unfolding tokens_from
quoted_spells name is rest =
    ap (tokens_from (InName (34 ∷ []))) (append_assoc name (34 ∷ []) rest) ∙ name_closes (34 ∷ []) name rest is

name_bytes : (name : List ℕ) → list_all is_name_byte name ≡ true → list_all is_no_quote name ≡ true
name_bytes [] is = refl
name_bytes (byte ∷ name) is =
    λ j. right_true _ (is_no_quote byte) (left_true (is_name_byte byte) (list_all is_name_byte name) is) j
    && name_bytes name (right_true (is_name_byte byte) (list_all is_name_byte name) is) j

pub name_spells : (name : List ℕ) → is_name name ≡ true → Spells (quoted name) (quoted name ∷ [])
name_spells name is = quoted_spells name (name_bytes name (right_true (not (length name == 0)) (list_all is_name_byte name) is))

-- a member of a group up to its closing quote
member_closes : (text name rest : List ℕ) → list_all is_no_quote name ≡ true
    → tokens_from (InMember text) (name ++ 34 ∷ rest) ≡ tokens_from (InGroup (text ++ (name ++ 34 ∷ []))) rest
unfolding tokens_from
member_closes text [] rest is = refl
member_closes text (byte ∷ name) rest is =
    (λ j. tokens_from (if no_quote byte (left_true (is_no_quote byte) (list_all is_no_quote name) is) j then InGroup (text ++ 34 ∷ []) else InMember (text ++ byte ∷ [])) (name ++ 34 ∷ rest))
    ∙ member_closes (text ++ byte ∷ []) name rest (right_true (is_no_quote byte) (list_all is_no_quote name) is)
    ∙ ap (λ (given : List ℕ). tokens_from (InGroup given) rest) (append_assoc text (byte ∷ []) (name ++ 34 ∷ []))

quoted_member : (text name rest : List ℕ) → is_name name ≡ true
    → tokens_from (InGroup text) (quoted name ++ rest) ≡ tokens_from (InGroup (text ++ quoted name)) rest
unfolding tokens_from
quoted_member text name rest is =
    ap (tokens_from (InMember (text ++ 34 ∷ []))) (append_assoc name (34 ∷ []) rest)
    ∙ member_closes (text ++ 34 ∷ []) name rest (name_bytes name (right_true (not (length name == 0)) (list_all is_name_byte name) is))
    ∙ ap (λ (given : List ℕ). tokens_from (InGroup given) rest) (append_assoc text (34 ∷ []) (name ++ 34 ∷ []))

members_close : (text : List ℕ) (names : Names) (rest : List ℕ) → list_all is_name names ≡ true
    → tokens_from (InGroup text) (joined_more names ++ 39 ∷ rest) ≡ (text ++ (joined_more names ++ 39 ∷ [])) ∷ tokens_of rest
unfolding tokens_from joined_more
members_close text [] rest is = refl
members_close text (name ∷ names) rest is =
    let plus : List ℕ = ((text ++ 32 ∷ []) ++ 43 ∷ []) ++ 32 ∷ [] in
    ap (tokens_from (InGroup plus)) (append_assoc (quoted name) (joined_more names) (39 ∷ rest))
    ∙ quoted_member plus name (joined_more names ++ 39 ∷ rest) (left_true (is_name name) (list_all is_name names) is)
    ∙ members_close (plus ++ quoted name) names rest (right_true (is_name name) (list_all is_name names) is)
    ∙ ap (λ (given : List ℕ). given ∷ tokens_of rest)
    (ap (λ (given : List ℕ). (given ++ quoted name) ++ (joined_more names ++ 39 ∷ [])) (append_assoc (text ++ 32 ∷ []) (43 ∷ []) (32 ∷ []) ∙ append_assoc text (32 ∷ []) (43 ∷ 32 ∷ []))
    ∙ append_assoc (text ++ codes " + ") (quoted name) (joined_more names ++ 39 ∷ [])
    ∙ append_assoc text (codes " + ") (quoted name ++ (joined_more names ++ 39 ∷ []))
    ∙ ap (λ (given : List ℕ). text ++ 32 ∷ 43 ∷ 32 ∷ given) (sym (append_assoc (quoted name) (joined_more names) (39 ∷ []))))

pub group_spells : (names : Names) → list_all is_name names ≡ true → Spells (group_word names) (group_word names ∷ [])
unfolding tokens_from
group_spells [] is rest = refl
group_spells (name ∷ names) is rest =
    ap (tokens_from (InGroup (39 ∷ []))) (append_assoc (quoted name ++ joined_more names) (39 ∷ []) rest ∙ append_assoc (quoted name) (joined_more names) (39 ∷ rest))
    ∙ quoted_member (39 ∷ []) name (joined_more names ++ 39 ∷ rest) (left_true (is_name name) (list_all is_name names) is)
    ∙ members_close ((39 ∷ []) ++ quoted name) names rest (right_true (is_name name) (list_all is_name names) is)
    ∙ ap (λ (given : List ℕ). (39 ∷ given) ∷ tokens_of rest) (sym (append_assoc (quoted name) (joined_more names) (39 ∷ [])))

-- a word before a text that begins with another byte
pub record IsWord (text : List ℕ) : Type 0 where
  pub some : 1 ≤ length text
  pub inside : list_all is_inside text ≡ true

-- the text begins with a byte that no word has
abbrev pub Stops : List ℕ → Type 0
Stops [] = ⊥
Stops (byte ∷ bytes) = is_inside byte ≡ false

word_ends : (text more : List ℕ) (stop : ℕ) (rest : List ℕ) → list_all is_inside more ≡ true → is_inside stop ≡ false
    → tokens_from (InWord text) (more ++ stop ∷ rest) ≡ (text ++ more) ∷ tokens_of (stop ∷ rest)
unfolding tokens_from
word_ends text [] stop rest is stops =
    (λ j. (if stops j then [] else text ∷ alone stop) ++ tokens_from (if stops j then InWord (text ++ stop ∷ []) else begun stop) rest)
    ∙ ap (λ (given : List ℕ). given ∷ (alone stop ++ tokens_from (begun stop) rest)) (sym (append-nil text))
word_ends text (byte ∷ more) stop rest is stops =
    (λ j. (if left_true (is_inside byte) (list_all is_inside more) is j then [] else text ∷ alone byte)
    ++ tokens_from (if left_true (is_inside byte) (list_all is_inside more) is j then InWord (text ++ byte ∷ []) else begun byte) (more ++ stop ∷ rest))
    ∙ word_ends (text ++ byte ∷ []) more stop rest (right_true (is_inside byte) (list_all is_inside more) is) stops
    ∙ ap (λ (given : List ℕ). given ∷ tokens_of (stop ∷ rest)) (append_assoc text (byte ∷ []) more)

-- a byte of a word is neither a mark nor a quote
inside_only : (byte : ℕ) → is_inside byte ≡ true → (alone byte ≡ []) × (begun byte ≡ InWord (byte ∷ []))
inside_only byte is = (not_alone (is_space byte) (is_mark byte) (is_quote byte) is, λ j. if is j then InWord (byte ∷ []) else (if byte == 34 then InName (34 ∷ []) else (if byte == 39 then InGroup (39 ∷ []) else Between)))
  where
    not_alone : (space mark quote : Bool) → not (space || mark || quote) ≡ true → (if mark then (byte ∷ []) ∷ [] else []) ≡ []
    not_alone space false quote is = refl
    not_alone false true quote is = absurd cc
    not_alone true true quote is = absurd cc

pub word_spells : (text more : List ℕ) (tokens : List Token) → IsWord text → Stops more → Spells more tokens → Spells (text ++ more) (text ∷ tokens)
unfolding tokens_from
word_spells [] more tokens is stops spells rest = absurd (omega (arith, is.some))
word_spells (byte ∷ text) [] tokens is stops spells rest = absurd stops
word_spells (byte ∷ text) (stop ∷ more) tokens is stops spells rest =
    let first = inside_only byte (left_true (is_inside byte) (list_all is_inside text) is.inside) in
    (λ j. first.0 j ++ tokens_from (first.1 j) ((text ++ stop ∷ more) ++ rest))
    ∙ ap (tokens_from (InWord (byte ∷ []))) (append_assoc text (stop ∷ more) rest)
    ∙ word_ends (byte ∷ []) text stop (more ++ rest) (right_true (is_inside byte) (list_all is_inside text) is.inside) stops
    ∙ ap (λ (given : List Token). (byte ∷ text) ∷ given) (spells rest)
