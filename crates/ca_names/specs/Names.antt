-- Lists of different names in the order in which they were added.
use Rattle.std.specs.Prelude.{ℕ, Bool, false, ◌||◌, if◌then◌else◌, List, [], ◌∷◌, ◌++◌, Option, position}
use Rattle.std.specs.List.{list_any, position_or_len}
use Rattle.std.specs.Str.{bytes_eq}

-- the names have this one
abbrev pub has_name : List ℕ → List (List ℕ) → Bool
has_name name names = list_any (bytes_eq name) names

-- the place of a name, if it is there
abbrev pub place_of : List ℕ → List (List ℕ) → Option ℕ
place_of name names = position (bytes_eq name) names

-- the names with this one, which comes last if it is new
abbrev pub with_name : List ℕ → List (List ℕ) → List (List ℕ)
with_name name names = if has_name name names then names else names ++ name ∷ []

-- the place of a name among the names with it: where it is, or after them if it is new
abbrev pub place_with : List ℕ → List (List ℕ) → ℕ
place_with name names = position_or_len (bytes_eq name) names

-- some of these words is among those before it or among the names seen
unfoldable pub repeats : List (List ℕ) → List (List ℕ) → Bool
repeats seen [] = false
repeats seen (word ∷ words) = has_name word seen || repeats (seen ++ word ∷ []) words

-- some word occurs twice
abbrev pub has_double : List (List ℕ) → Bool
has_double words = repeats [] words
