-- The words of a logical line: the longest runs of bytes that are neither blanks nor `=`, and each `=`.
use Rattle.std.specs.Prelude.{ℕ, not, ◌==◌, Bool, ◌||◌, if◌then◌else◌, List, [], ◌∷◌, map}
use Rattle.std.specs.List.{prefix_len}
use Rattle.std.specs.Char.{to_ascii_uppercase}

-- space, tab and carriage return
abbrev pub is_blank : ℕ → Bool
is_blank byte = byte == 32 || byte == 9 || byte == 13

-- a blank or `=`, which end a word
abbrev pub ends_word : ℕ → Bool
ends_word byte = is_blank byte || byte == 61

-- how many bytes are before the first one that ends a word
abbrev pub word_len : List ℕ → ℕ
word_len text = prefix_len (λ byte. not (ends_word byte)) text

-- these texts with the byte at the front of the first one, or the text of this byte where there are none
abbrev pub with_byte : ℕ → List (List ℕ) → List (List ℕ)
with_byte byte [] = (byte ∷ []) ∷ []
with_byte byte (first ∷ others) = (byte ∷ first) ∷ others

-- the words of a byte that belongs to a word and of the text after it, which has these words
abbrev pub words_with : ℕ → List ℕ → List (List ℕ) → List (List ℕ)
words_with byte [] words = (byte ∷ []) ∷ words
words_with byte (next ∷ more) words = if ends_word next then (byte ∷ []) ∷ words else with_byte byte words

-- the words of a text, in order
unfoldable pub words_of : List ℕ → List (List ℕ)
words_of [] = []
words_of (byte ∷ more) = if is_blank byte then words_of more
    else (if byte == 61 then (byte ∷ []) ∷ words_of more else words_with byte more (words_of more))

-- the text with each ASCII letter in upper case
abbrev pub upper_case : List ℕ → List ℕ
upper_case text = map to_ascii_uppercase text
