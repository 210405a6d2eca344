-- The tokens of a STIL text: words, marks, and quoted texts, in which nothing else counts.
use Rattle.std.specs.Prelude.{ℕ, suc, ◌==◌, Bool, true, false, not, ◌||◌, if◌then◌else◌, List, [], ◌∷◌}
use Rattle.std.specs.Prelude.{◌++◌, drop}
use Rattle.std.specs.List.{prefix_len}
use Rattle.ca_stil_form.specs.Form.{Token}

-- space, tab, carriage return and line feed
abbrev pub is_space : ℕ → Bool
is_space byte = byte == 32 || byte == 9 || byte == 13 || byte == 10

-- `{`, `}`, `;`, `:`, `=` and `#`, each of which is a token
abbrev pub is_mark : ℕ → Bool
is_mark byte = byte == 123 || byte == 125 || byte == 59 || byte == 58 || byte == 61 || byte == 35

-- `"` and `'`, which begin a quoted text
abbrev pub is_quote : ℕ → Bool
is_quote byte = byte == 34 || byte == 39

-- any other byte belongs to a word
abbrev pub is_inside : ℕ → Bool
is_inside byte = not (is_space byte || is_mark byte || is_quote byte)

-- where the reading of a text is, with what was read of the token there: between tokens, in a word, in a text
-- in double quotes, and in one in single quotes, outside and inside the double quotes in it
pub data Place : Type 0 where
  Between : Place
  InWord : List ℕ → Place
  InName : List ℕ → Place
  InGroup : List ℕ → Place
  InMember : List ℕ → Place

-- where the reading is after a byte that begins something, and the token that such a byte is
abbrev pub begun : ℕ → Place
begun byte =
    if is_inside byte then InWord (byte ∷ [])
    else (if byte == 34 then InName (34 ∷ []) else (if byte == 39 then InGroup (39 ∷ []) else Between))

abbrev pub alone : ℕ → List Token
alone byte = if is_mark byte then (byte ∷ []) ∷ [] else []

-- where the reading is after the next byte
abbrev pub next_place : Place → ℕ → Place
next_place Between byte = begun byte
next_place (InWord text) byte = if is_inside byte then InWord (text ++ byte ∷ []) else begun byte
next_place (InName text) byte = if byte == 34 then Between else InName (text ++ byte ∷ [])
next_place (InGroup text) byte =
    if byte == 39 then Between
    else (if byte == 34 then InMember (text ++ 34 ∷ []) else InGroup (text ++ byte ∷ []))
next_place (InMember text) byte =
    if byte == 34 then InGroup (text ++ 34 ∷ []) else InMember (text ++ byte ∷ [])

-- the tokens that end with the next byte
abbrev pub ended : Place → ℕ → List Token
ended Between byte = alone byte
ended (InWord text) byte = if is_inside byte then [] else text ∷ alone byte
ended (InName text) byte = if byte == 34 then (text ++ 34 ∷ []) ∷ [] else []
ended (InGroup text) byte = if byte == 39 then (text ++ 39 ∷ []) ∷ [] else []
ended (InMember text) byte = []

-- the token in which a text ends; a quoted text that isn't closed is a token that no form has
abbrev pub last_token : Place → List Token
last_token Between = []
last_token (InWord text) = text ∷ []
last_token (InName text) = text ∷ []
last_token (InGroup text) = text ∷ []
last_token (InMember text) = text ∷ []

-- the tokens of the bytes that are left
unfoldable pub tokens_from : Place → List ℕ → List Token
tokens_from place [] = last_token place
tokens_from place (byte ∷ bytes) = ended place byte ++ tokens_from (next_place place byte) bytes

-- the tokens of a text
abbrev pub tokens_of : List ℕ → List Token
tokens_of text = tokens_from Between text

-- how many bytes of a text belong to the word that it begins with
abbrev pub word_len : List ℕ → ℕ
word_len [] = 0
word_len (byte ∷ bytes) = if is_inside byte then suc (word_len bytes) else 0

-- how many bytes there are up to the closing double quote, with it, or all where there is none
abbrev pub name_len : List ℕ → ℕ
name_len [] = 0
name_len (byte ∷ bytes) = if byte == 34 then 1 else suc (name_len bytes)

-- how many bytes there are up to the closing single quote, with it; one between double quotes doesn't close
abbrev pub group_len : Bool → List ℕ → ℕ
group_len in_name [] = 0
group_len true (byte ∷ bytes) = suc (group_len (not (byte == 34)) bytes)
group_len false (byte ∷ bytes) = if byte == 39 then 1 else suc (group_len (byte == 34) bytes)

-- how long the token is that a text begins with
abbrev pub first_len : List ℕ → ℕ
first_len [] = 0
first_len (byte ∷ bytes) =
    if is_mark byte then 1 else
    (if byte == 34 then suc (name_len bytes)
    else (if byte == 39 then suc (group_len false bytes) else word_len (byte ∷ bytes)))

-- the text without the spaces before its first token
abbrev pub trimmed : List ℕ → List ℕ
trimmed text = drop (prefix_len is_space text) text
