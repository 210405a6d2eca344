-- Words of the code beside those of `specs/Words.antt`. Private functions and proofs cite them.
use Rattle.std.specs.Prelude.{ℕ, ◌≡◌, false, not, ◌==◌, if◌then◌else◌, List, [], ◌∷◌}
use Rattle.ca_lex.specs.Words.{is_blank, word_len}

-- the text begins with a word, and not with a blank
abbrev pub BeginsWord : List ℕ → Type 0
BeginsWord [] = ⊥
BeginsWord (byte ∷ more) = is_blank byte ≡ false

-- how long the word is that a text begins with
abbrev pub first_word_len : List ℕ → ℕ
first_word_len [] = 0
first_word_len (byte ∷ more) = if byte == 61 then 1 else word_len (byte ∷ more)
