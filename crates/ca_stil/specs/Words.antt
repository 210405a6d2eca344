-- The words of a STIL text: names, bits and expected values, and the members of a statement.
use Rattle.std.specs.Prelude.{ℕ, Bool, true, false, List, [], ◌∷◌, ◌++◌, map, reverse, get_or, codes}
use Rattle.ca_net.specs.declared.trit.Trit.{Trit}
use Rattle.ca_net.specs.declared.trit.Trit.TheVariants.{Zero, One, X}

-- a name in double quotes
abbrev pub quoted : List ℕ → List ℕ
quoted name = codes "\"" ++ (name ++ codes "\"")

-- names after others, and names from the first on: joined by ` + `
unfoldable pub joined_more : List (List ℕ) → List ℕ
joined_more [] = []
joined_more (name ∷ names) = codes " + " ++ (quoted name ++ joined_more names)

abbrev pub joined : List (List ℕ) → List ℕ
joined [] = []
joined (name ∷ names) = quoted name ++ joined_more names

-- the digit of a bit
abbrev pub digit_of : Bool → ℕ
digit_of false = 48
digit_of true = 49

-- the letter of an expected value: L, H, or X where none is expected
abbrev pub level_of : Trit → ℕ
level_of Zero = 76
level_of One = 72
level_of X = 88

-- ` "NAME"=`, with which a member of a statement begins
unfoldable pub key_text : List ℕ → List ℕ
key_text name = codes " " ++ (quoted name ++ codes "=")

-- ` "NAME"=WORD;`, a member of a statement
abbrev pub member_text : List ℕ → List ℕ → List ℕ
member_text name word = key_text name ++ (word ++ codes ";")

-- the bits, and the expected values, of the scan instances at these places, the last one first
unfoldable pub cell_bits : List Bool → List ℕ → List ℕ
cell_bits values places = map digit_of (reverse (map (λ place. get_or values place false) places))

unfoldable pub cell_levels : List Trit → List ℕ → List ℕ
cell_levels values places = map level_of (reverse (map (λ place. get_or values place X) places))
