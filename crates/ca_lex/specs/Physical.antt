-- The physical lines of a cell netlist, and what each one is.
use Rattle.std.specs.Prelude.{ℕ, ◌+◌, ◌==◌, Bool, true, not, ◌&&◌, if◌then◌else◌, List, [], ◌∷◌, take, drop}
use Rattle.std.specs.Prelude.{codes}
use Rattle.std.specs.List.{prefix_len}
use Rattle.std.specs.Str.{str_eq_ignore_ascii_case}
use Rattle.ca_lex.specs.Words.{is_blank, ends_word, word_len, with_byte}

-- the lines of a text: each ends with a line feed, which the last one may lack
unfoldable pub lines_of : List ℕ → List (List ℕ)
lines_of [] = []
lines_of (byte ∷ more) = if byte == 10 then [] ∷ lines_of more else with_byte byte (lines_of more)

-- how many bytes are before the first line feed
abbrev pub line_len : List ℕ → ℕ
line_len text = prefix_len (λ byte. not (byte == 10)) text

-- how many bytes are before the first `$` that begins a word, where `begins` says whether a word can begin at
-- once
abbrev pub code_len : Bool → List ℕ → ℕ
code_len begins [] = 0
code_len begins (byte ∷ more) = if begins && byte == 36 then 0 else 1 + code_len (ends_word byte) more

-- a line up to the word that begins a comment
abbrev pub without_comment : List ℕ → List ℕ
without_comment line = take (code_len true line) line

-- the first word is *.PININFO in any case
unfoldable pub is_pin_info : List ℕ → Bool
is_pin_info line = str_eq_ignore_ascii_case (take (word_len line) line) (codes "*.PININFO")

-- what a physical line is: nothing but blanks and comments, a continuation, the roles of pins, or a card
pub data Physical : Type 0 where
  Nothing : Physical
  Continuation : List ℕ → Physical
  PinInfo : List ℕ → Physical
  Card : List ℕ → Physical

-- the card that a text is, if anything is left of it without its comment
unfoldable pub card_of : List ℕ → Physical
card_of [] = Nothing
card_of (byte ∷ text) = Card (byte ∷ text)

-- what a line is that begins with no blank: `*` begins a comment or the roles of pins, and `+` a continuation
unfoldable pub physical_at : List ℕ → Physical
physical_at [] = Nothing
physical_at (byte ∷ more) =
    if byte == 42 then
    (if is_pin_info (byte ∷ more) then PinInfo (without_comment (byte ∷ more)) else Nothing)
    else (if byte == 43 then Continuation (without_comment more) else card_of (without_comment (byte ∷ more)))

-- what a line is, which the bytes after its blanks decide
abbrev pub physical_of : List ℕ → Physical
physical_of line = physical_at (drop (prefix_len is_blank line) line)
