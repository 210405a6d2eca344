-- The words of a text in upper case are in upper case.
use Rattle.std.proofs.Common.{◌≡◌, ℕ, List, Bool, true, false, cond, [], ◌∷◌, refl, ◌∙◌, ap}
use Rattle.std.specs.Prelude.{◌==◌}
use Rattle.std.specs.Char.{to_ascii_uppercase}
use Rattle.std.specs.List.{All}
use Rattle.std.proofs.lemmas.List.Elements.{All-nil, All-cons, All-head, All-tail}
use Rattle.std.proofs.lemmas.Str.Ascii.{uppercase-uppercase}
use Rattle.ca_lex.specs.Words.{is_blank, ends_word, with_byte, words_with, words_of, upper_case}
use Rattle.ca_spice.specs.code.Kept.{IsUpper}

-- the byte is in upper case
abbrev IsUpperByte : ℕ → Type 0
IsUpperByte byte = to_ascii_uppercase byte ≡ byte

cons-upper : (byte : ℕ) (word : List ℕ) → IsUpperByte byte → IsUpper word → IsUpper (byte ∷ word)
cons-upper byte word first rest = ap (λ b. b ∷ upper_case word) first ∙ ap (λ w. byte ∷ w) rest

with_byte-upper : (byte : ℕ) (words : List (List ℕ)) → IsUpperByte byte → All IsUpper words → All IsUpper (with_byte byte words)
with_byte-upper byte [] upper all = All-cons IsUpper (byte ∷ []) [] (cons-upper byte [] upper refl) (All-nil IsUpper)
with_byte-upper byte (first ∷ others) upper all =
    All-cons IsUpper (byte ∷ first) others (cons-upper byte first upper (All-head IsUpper first others all)) (All-tail IsUpper first others all)

words_with-upper : (byte : ℕ) (more : List ℕ) (words : List (List ℕ)) → IsUpperByte byte → All IsUpper words → All IsUpper (words_with byte more words)
words_with-upper byte [] words upper all = All-cons IsUpper (byte ∷ []) words (cons-upper byte [] upper refl) all
words_with-upper byte (next ∷ more) words upper all = by (ends_word next)
  where
    by : (ends : Bool) → All IsUpper (cond ends ((byte ∷ []) ∷ words) (with_byte byte words))
    by true = All-cons IsUpper (byte ∷ []) words (cons-upper byte [] upper refl) all
    by false = with_byte-upper byte words upper all

pub words_of-upper : (text : List ℕ) → All IsUpper (words_of (upper_case text))
unfolding words_of
words_of-upper [] = All-nil IsUpper
words_of-upper (letter ∷ text) = by (is_blank (to_ascii_uppercase letter)) (to_ascii_uppercase letter == 61) (words_of-upper text)
  where
    byte : ℕ
    byte = to_ascii_uppercase letter

    by : (blank sign : Bool) → All IsUpper (words_of (upper_case text))
        → All IsUpper (cond blank (words_of (upper_case text)) (cond sign ((byte ∷ []) ∷ words_of (upper_case text)) (words_with byte (upper_case text) (words_of (upper_case text)))))
    by true sign all = all
    by false true all = All-cons IsUpper (byte ∷ []) (words_of (upper_case text)) (cons-upper byte [] (uppercase-uppercase letter) refl) all
    by false false all = words_with-upper byte (upper_case text) (words_of (upper_case text)) (uppercase-uppercase letter) all
