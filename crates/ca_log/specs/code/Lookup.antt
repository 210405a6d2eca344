-- Names that are looked up in a set of different ones.
use Rattle.std.specs.Prelude.{ℕ, ◌≡◌, List, Option, Some, None, length, slice_get}
use Rattle.ca_names.specs.Names.{place_of}

-- the entry at a place, if there is one
abbrev pub first_at : List ℕ → Option ℕ → Option ℕ
first_at firsts None = None
first_at firsts (Some place) = slice_get firsts place

-- for each of these different names there is a number, and by it a name is found as in the whole list
pub record IsLookup (different : List (List ℕ)) (firsts : List ℕ) (names : List (List ℕ)) : Type 0 where
  pub as_many : length firsts ≡ length different
  pub finds : (name : List ℕ) → first_at firsts (place_of name different) ≡ place_of name names
