-- Which words may be in a text, and which are names.
use Rattle.std.specs.Prelude.{ℕ, ◌==◌, nat_le, Bool, not, ◌&&◌, ◌||◌, List}
use Rattle.std.specs.List.{list_all}

-- a byte that may be in a word: from 33 to 126
abbrev pub is_text_byte : ℕ → Bool
is_text_byte byte = nat_le 33 byte && nat_le byte 126

-- each byte of the word may be in it
abbrev pub is_text : List ℕ → Bool
is_text word = list_all is_text_byte word

-- a byte that may be in a name: none of ( ) , " and '
abbrev pub is_name_byte : ℕ → Bool
is_name_byte byte = not (byte == 40 || byte == 41 || byte == 44 || byte == 34 || byte == 39)

-- the word is a name
abbrev pub is_name : List ℕ → Bool
is_name word = list_all is_name_byte word
