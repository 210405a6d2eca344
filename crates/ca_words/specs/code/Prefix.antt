-- Whether words begin with those that name a strength table's file.
use Rattle.std.specs.Prelude.{◌≡◌, ◌≤◌, ℕ, List, [], length, codes, slice_index_or}

-- there are two words, of which the first is `strengths`
pub record NamesTable (words : List (List ℕ)) : Type 0 where
  pub two : 2 ≤ length words
  pub first : slice_index_or words 0 [] ≡ codes "strengths"
