-- The nets of the chip inputs and of the observed outputs.
use Rattle.std.specs.Prelude.{ℕ, ◌≡◌, ◌↔◌, Bool, true, false, List, length, slice_index_or}
use Rattle.std.specs.List.{Contains}

-- of this many nets exactly the listed ones are marked
pub record AreMarked (count : ℕ) (nets : List ℕ) (marks : List Bool) : Type 0 where
  pub room : length marks ≡ count
  pub marked : (net : ℕ) → (slice_index_or marks net false ≡ true) ↔ Contains nets net
