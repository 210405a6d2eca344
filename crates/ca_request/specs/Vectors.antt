-- The words that stand for vectors.
use Rattle.std.specs.Prelude.{ℕ, ◌==◌, List, [], map, codes, if◌then◌else◌}
use Rattle.std.specs.Str.{bytes_eq}
use Rattle.ca_net.specs.declared.trit.Trit.{Trit}
use Rattle.ca_net.specs.declared.trit.Trit.TheVariants.{Zero, One, X}

-- the word that stands for no defect, for no file, and for the vector without letters
abbrev pub dash : List ℕ
dash = codes "-"

-- the letters of a vector, of which a dash has none
abbrev pub letters_of : List ℕ → List ℕ
letters_of word = if bytes_eq word dash then [] else word

-- the value of a letter: 0, 1, and X for any other
abbrev pub trit_of : ℕ → Trit
trit_of letter = if letter == 48 then Zero else (if letter == 49 then One else X)

-- the values of a vector's letters
abbrev pub trits_of : List ℕ → List Trit
trits_of word = map trit_of (letters_of word)
